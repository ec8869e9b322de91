-- What a key of a set stands for.
use Rattle.term_shapes.specs.declared.handles.Term.{Term}
use Rattle.term_sketches.specs.declared.items.Literal.{Literal}
use Rattle.term_sketches.specs.declared.ordered.AtomKey.{AtomKey}
use Rattle.term_sketches.specs.declared.ordered.LiteralKey.{LiteralKey}

-- the term of a key
abbrev pub atom_of : AtomKey → Term
atom_of k = record { slot = k.slot; stamp = k.stamp }

-- the literal of a key
abbrev pub literal_of : LiteralKey → Literal
literal_of k = record { atom = atom_of k.atom; negated = k.negated }
