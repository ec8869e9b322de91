use Rattle.std.proofs.Common.{◌∙◌, ◌++◌, map, ap, string_bytes}
use Rattle.term_texts.specs.TypeTexts.{spaced, part_text}
use Rattle.term_texts.proofs.Pieces.{function_pieces}
use Rattle.term_texts.proofs.types.push_type.Goals as goal

pub returns-in_ok-push_str-in-Fun-3 : goal.returns-in_ok-push_str-in-Fun-3
returns-in_ok-push_str-in-Fun-3 c =
    function_pieces c.args.table.now c.args.t c.args.shape.now c.in-Fun.domain c.in-Fun.value (string_bytes c.args.out.now) (string_bytes c.push_str.new.self) (string_bytes c.push_parts.new.out) (string_bytes c.push_str-in-Fun.new.self)
    (string_bytes c.push_part.new.out) (string_bytes c.push_str-in-Fun-2.new.self) c.requires c.in-Fun.is c.in_ok-push_str-in-Fun.ensures.bytes
    (c.in_ok-push_parts-in-Fun.ensures ∙ ap (λ ts. string_bytes c.push_str.new.self ++ spaced (map (part_text c.args.table.now) ts)) c.as_slice.ensures) c.in_ok-push_str-in-Fun-2.ensures.bytes c.in_ok-push_part-in-Fun.ensures
    c.in_ok-push_str-in-Fun-3.ensures.bytes
