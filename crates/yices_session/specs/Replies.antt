-- The texts of replies.
use Rattle.std.specs.Prelude.{ℕ, List, [], ◌∷◌, ◌++◌, Option, Some, None, codes, string_bytes, if◌then◌else◌}
use Rattle.y_tree.specs.Values.{Value}
use Rattle.y_tree.specs.Tree.{Tree}
use Rattle.y_tree.specs.Meaning.{Assignment, meaning}
use Rattle.value_texts.specs.Texts.{value_text}
use Rattle.yices_session.specs.declared.refusal.Reply.{Reply}
use Rattle.yices_session.specs.declared.refusal.Reply.TheVariants as reply
use Rattle.yices_session.specs.State.{Named, Literal, Kept, Core}

-- what is printed of a reply
abbrev pub reply_text : Reply → List ℕ
reply_text reply.Nothing = []
reply_text reply.Sat = codes "sat\n"
reply_text reply.Unsat = codes "unsat\n"
reply_text reply.Unknown = codes "unknown\n"
reply_text reply.NoModel = codes "no model\n"
reply_text reply.NoCore = codes "no core\n"
reply_text (reply.Text text) = string_bytes text

-- the line of a name and its value: `(= NAME VALUE)`
abbrev pub value_line : List ℕ → Value → List ℕ
value_line w v = codes "(= " ++ w ++ codes " " ++ value_text v ++ codes ")\n"

-- the line of a name under a model; a name that was defined with a value has none
abbrev pub name_line : Assignment → Named → List ℕ
name_line s n = if n.has_value then [] else value_line n.name (meaning n.tree s)

-- the lines of the names, in order of declaration
abbrev pub name_lines : Assignment → List Named → List ℕ
name_lines s [] = []
name_lines s (n ∷ ns) = name_line s n ++ name_lines s ns

-- the model that is kept, as it is printed
abbrev pub model_text : Option Kept → List Named → List ℕ
model_text None ns = codes "no model\n"
model_text (Some m) ns = name_lines m.values ns

-- the value of a tree under the model that is kept, as it is printed
abbrev pub value_reply : Option Kept → Tree → List ℕ
value_reply None t = codes "no model\n"
value_reply (Some m) t = value_text (meaning t m.values) ++ codes "\n"

-- a literal as it was written
abbrev pub literal_text : Literal → List ℕ
literal_text l = if l.positive then l.name else (codes "(not " ++ l.name ++ codes ")")

-- literals with single spaces between them
abbrev pub literals_text : List Literal → List ℕ
literals_text [] = []
literals_text (l ∷ []) = literal_text l
literals_text (l ∷ m ∷ ls) = literal_text l ++ codes " " ++ literals_text (m ∷ ls)

-- the core that is kept, as it is printed
abbrev pub core_text : Option Core → List ℕ
core_text None = codes "no core\n"
core_text (Some c) = codes "(" ++ literals_text c.written ++ codes ")\n"
