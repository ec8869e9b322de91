use Rattle.std.proofs.Common.{◌∙◌, ◌++◌, ap, length, string_bytes}
use Rattle.std.specs.Prelude.{slice_get}
use Rattle.term_texts.specs.Gaps.{opened, closed, earlier, between}
use Rattle.term_texts.proofs.Pieces.{three}
use Rattle.term_texts.proofs.gaps.push_sum_gap.Goals as goal

pub returns : goal.returns
returns c =
    let ms = c.args.monomials.now in
    three (string_bytes c.args.out.now) (closed (earlier ms c.args.place)) (between (length ms) c.args.constant c.args.place) (opened (slice_get ms c.args.place)) (string_bytes c.push_closed.new.out) (string_bytes c.push_between.new.out)
    (string_bytes c.push_opened.new.out) (c.in_ok-push_closed.ensures ∙ ap (λ m. string_bytes c.args.out.now ++ closed m) c.earlier.ensures)
    c.in_ok-push_between.ensures (c.in_ok-push_opened.ensures ∙ ap (λ m. string_bytes c.push_between.new.out ++ opened m) c.monomial_at.ensures)
