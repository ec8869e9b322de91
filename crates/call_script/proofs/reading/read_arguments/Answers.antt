use Rattle.std.proofs.Common.{◌∙◌, ◌+◌, false, length, sym, ap, subst, arith}
use Rattle.std.proofs.lemmas.Result.{err_from_is_err_and}
use Rattle.call_script.specs.Results.{front_of, Tells}
use Rattle.call_script.specs.Judging.{said_from}
use Rattle.call_script.specs.Scanned.{plain_tail, plain_token}
use Rattle.call_script.proofs.Going.{said_tail, said_more, said_refused}
use Rattle.call_script.proofs.reading.read_arguments.Goals as goal

pub returns-in-Tail : goal.returns-in-Tail
returns-in-Tail c =
    subst (Tells c.behind_call.result)
    (sym (said_tail c.args.end false c.loop-tail.here c.loop-tail.rest.now (c.args.column + length c.args.bytes.now) (front_of c.loop-tail.call) (plain_tail c.in-Tail.tail) c.in-Tail.ensures.found) ∙ c.loop-tail.invariant.same)
    c.behind_call.ensures

pub returns-in_err-add_argument-in-Token : goal.returns-in_err-add_argument-in-Token
returns-in_err-add_argument-in-Token c =
    let p = err_from_is_err_and c.from_residual.result c.from_residual.ensures.1 in
    rw (p.1, p.2) (c.in_err-add_argument-in-Token.ensures.refused (said_from c.args.end (c.args.column + length c.args.bytes.now) (front_of c.args.call) false c.args.column c.args.bytes.now)
    (λ h. sym c.loop-tail.invariant.same ∙ said_refused c.args.end false c.loop-tail.here c.loop-tail.rest.now (c.args.column + length c.args.bytes.now) (front_of c.loop-tail.call) (plain_token c.in-Token.token) c.in-Token.behind.now c.in-Token.ensures.found h))

pub loop-tail-preserved : goal.loop-tail-preserved
loop-tail-preserved c = record {
  left = omega (arith, c.column_behind-here.ensures, c.in-Token.ensures.within.0, c.loop-tail.invariant.left);
  same = ap (λ k. said_from c.args.end (c.args.column + length c.args.bytes.now) (front_of c.add_argument.new.call) false k c.in-Token.behind.now) c.column_behind-here.ensures
      ∙ sym (said_more c.args.end false c.loop-tail.here c.loop-tail.rest.now (c.args.column + length c.args.bytes.now) (front_of c.loop-tail.call) (front_of c.add_argument.new.call) (plain_token c.in-Token.token) c.in-Token.behind.now c.in-Token.ensures.found c.in_ok-add_argument-in-Token.ensures.added)
      ∙ c.loop-tail.invariant.same;
}
