-- What contracts see of a session whose fields changed.
use Rattle.std.proofs.Common.{◌≡◌, ◌∙◌, ℕ, List, [], ◌∷◌, ◌++◌, map, ap}
use Rattle.std.proofs.lemmas.List.{map-append}
use Rattle.term_shapes.specs.declared.handles.Term.{Term}
use Rattle.yices_api.specs.State.{State as Environment}
use Rattle.yices_session.specs.declared.session.Declared.{Declared as Kept}
use Rattle.yices_session.specs.Held.{Held, Declared}

-- a name of the code
abbrev pub plain_name : Kept → Declared
plain_name d = record { name = d.name; term = d.term; has_value = d.has_value }

abbrev pub plain_names : List Kept → List Declared
plain_names ds = map plain_name ds

-- the environment and the names are others
abbrev pub held_with : Held → Environment → List Declared → List Term → Held
held_with h env ds ps = record h { env = env; declared = ds; parts = ps }

pub held_as : (h : Held) (e f : Environment) (xs ys : List Kept) (ps qs : List Term) → f ≡ e → ys ≡ xs → qs ≡ ps → held_with h f (plain_names ys) qs ≡ held_with h e (plain_names xs) ps
held_as h e f xs ys ps qs a b c = ap (λ z. held_with h z (plain_names ys) qs) a ∙ ap (λ zs. held_with h e (plain_names zs) qs) b ∙ ap (λ zs. held_with h e (plain_names xs) zs) c

-- with one name more
pub held_named : (h : Held) (e f : Environment) (xs ys : List Kept) (ps qs : List Term) (d : Kept) (w : List ℕ) → f ≡ e → ys ≡ xs ++ d ∷ [] → qs ≡ ps → d.name ≡ w
    → held_with h f (plain_names ys) qs ≡ held_with h e (plain_names xs ++ record { name = w; term = d.term; has_value = d.has_value } ∷ []) ps
held_named h e f xs ys ps qs d w a b c is =
    held_as h e f (xs ++ d ∷ []) ys ps qs a b c
    ∙ ap (λ zs. held_with h e zs ps) (map-append plain_name xs (d ∷ []) ∙ ap (λ (v : List ℕ). plain_names xs ++ record { name = v; term = d.term; has_value = d.has_value } ∷ []) is)

-- the environment and the formulas are others, with what was found of them or without
abbrev pub held_formulas : Held → Environment → List Term → Held
held_formulas h env ts = record h { env = env; formulas = ts }

pub held_pushed : (h : Held) (e : Environment) (ts us : List Term) → us ≡ ts → held_formulas h e us ≡ held_formulas h e ts
held_pushed h e ts us a = ap (held_formulas h e) a
