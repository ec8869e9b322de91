use Rattle.std.proofs.Common.{◌∙◌, ◌++◌, ap, codes, decimal, string_bytes}
use Rattle.term_texts.proofs.Pieces.{three}
use Rattle.term_texts.proofs.types.push_width.Goals as goal

pub returns : goal.returns
returns c =
    three (string_bytes c.args.out.now) (codes "(bitvector ") (decimal c.args.width) (codes ")") (string_bytes c.push_str.new.self) (string_bytes c.push_str-2.new.self) (string_bytes c.push_str-3.new.self)
    c.in_ok-push_str.ensures.bytes (c.in_ok-push_str-2.ensures.bytes ∙ ap (λ x. string_bytes c.push_str.new.self ++ x) c.format.ensures.text) c.in_ok-push_str-3.ensures.bytes
