use Rattle.std.proofs.Common.{rules, ◌∙◌, ◌++◌, [], ◌∷◌, ap, arith, string_bytes}
use Rattle.term_texts.proofs.Trees.{live_text, not_long}
use Rattle.term_texts.proofs.Stacks.{writing_starts, writing_turn, writing_ends, writing_long, falls, start_fits, empty}
use Rattle.term_texts.proofs.terms.spell.Goals as goal

pub loop-frame-init : goal.loop-frame-init
loop-frame-init c =
    let (x, h) = live_text c.args.table.now c.args.t c.is_table.ensures c.requires in
    record {
      written = writing_starts c.args.table.now c.args.t x (string_bytes c.new-out.result) c.push.new.self.items h c.new-out.ensures.bytes (c.in_ok-push.ensures.items ∙ ap (λ fs. fs ++ record { of = c.args.t; place = 0 } ∷ []) c.new-stack.ensures.items);
      fits = start_fits (string_bytes c.new-out.result) c.new-out.ensures.bytes;
    }

pub loop-frame-preserved : goal.loop-frame-preserved
loop-frame-preserved c = record {
  written = writing_turn c.args.table.now c.args.t (string_bytes c.loop-frame.out) (string_bytes c.push_next.new.out) c.loop-frame.stack.items c.pop.new.self.items c.push_next.new.stack.items c.in-Some.frame c.loop-frame.invariant.written
      c.in-Some.ensures.items c.in_ok-push_next.ensures.bytes c.in_ok-push_next.ensures.begun;
  fits = omega (arith, c.if-len-gt-LIMIT.false, c.len.ensures, c.push_next.new.out.bytes.ok.0);
}

pub loop-frame-smaller : goal.loop-frame-smaller
loop-frame-smaller c =
    falls c.args.table.now c.loop-frame.stack.items c.pop.new.self.items c.push_next.new.stack.items c.in-Some.frame c.is_table.ensures c.in-Some.ensures.items c.in_ok-push_next.ensures.begun

pub returns-then-len-gt-LIMIT-clause-refused : goal.returns-then-len-gt-LIMIT-clause-refused
returns-then-len-gt-LIMIT-clause-refused c =
    writing_long c.args.table.now c.args.t (string_bytes c.push_next.new.out) c.push_next.new.stack.items
    (writing_turn c.args.table.now c.args.t (string_bytes c.loop-frame.out) (string_bytes c.push_next.new.out) c.loop-frame.stack.items c.pop.new.self.items c.push_next.new.stack.items c.in-Some.frame c.loop-frame.invariant.written
    c.in-Some.ensures.items c.in_ok-push_next.ensures.bytes c.in_ok-push_next.ensures.begun) (omega (arith, c.if-len-gt-LIMIT.true, c.len.ensures, c.push_next.new.out.bytes.ok.0))

pub returns-clause-ok : goal.returns-clause-ok
returns-clause-ok c = writing_ends c.args.table.now c.args.t (string_bytes c.loop-frame.out) c.loop-frame.stack.items c.loop-frame.invariant.written (empty c.loop-frame.stack.items (first_of (omega (arith, c.in_default.ensures.cases.0, c.loop-frame.stack.ok.0), search (rules, c.in_default.ensures.cases, c.loop-frame.stack.ok))))

pub returns-clause-fits : goal.returns-clause-fits
returns-clause-fits c = c.loop-frame.invariant.fits

pub returns-clause-not_long : goal.returns-clause-not_long
returns-clause-not_long c = not_long c.args.table.now c.args.t (string_bytes c.loop-frame.out) (returns-clause-ok c) c.loop-frame.invariant.fits
