use Rattle.std.proofs.Common.{rules, sym, subst, codes, ◌++◌, ◌≡◌}
use Rattle.std.specs.Prelude.{IfOk, string_bytes, decimal}
use Rattle.yices_cli.proofs.Growing.{three_ended}
use Rattle.yices_cli.proofs.exit.refused_line.Goals as goal

pub returns-in-UnknownName : goal.returns-in-UnknownName
returns-in-UnknownName c = rw (c.in-UnknownName.is, ← c.as_str-name.ensures.bytes) (search rules)

pub returns-in-NameInUse : goal.returns-in-NameInUse
returns-in-NameInUse c = rw (c.in-NameInUse.is, ← c.as_str-name-in-NameInUse.ensures.bytes) (search rules)

pub returns-in-BoundTwice : goal.returns-in-BoundTwice
returns-in-BoundTwice c = rw (c.in-BoundTwice.is, ← c.as_str-name-in-BoundTwice.ensures.bytes) (search rules)

pub returns-in-WrongType : goal.returns-in-WrongType
returns-in-WrongType c =
    rw (c.in-WrongType.is, ← c.as_str-wanted.ensures.bytes, ← c.as_str-found.ensures.bytes)
    (subst
    (λ x. IfOk c.format-in-WrongType.result (λ line. string_bytes line ≡ codes "yices: <stdin>:" ++ (decimal c.args.place.line ++ (codes ":" ++ (decimal c.args.place.column ++ (codes ": refused 8 WrongType " ++ x))))))
    (sym (three_ended (decimal c.in-WrongType.argument) c.as_str-wanted.result.now c.as_str-found.result.now)) (search rules))

pub returns-in-BadArity : goal.returns-in-BadArity
returns-in-BadArity c = rw c.in-BadArity.is (search rules)
