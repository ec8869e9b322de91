-- The lines of names and their values, one after another, and the model that they show.
use Rattle.std.proofs.Common.{◌≡◌, ◌<◌, ◌≤◌, ◌+◌, ◌∙◌, ℕ, zero, suc, Bool, true, false, cond, List, [], ◌∷◌, ◌++◌, map, Option, Some, None, length, drop, get_or, refl, sym, ap, subst, append_assoc, append-nil}
use Rattle.std.specs.Prelude.{slice_get, codes}
use Rattle.std.specs.Option.{option_map}
use Rattle.std.proofs.lemmas.List.{at_drop_more, at_drop_all}
use Rattle.std.proofs.lemmas.Option.{same_Some, slice_get_within, slice_get-get_or, get_or_from_slice_get, slice_get-map}
use Rattle.y_tree.specs.Values.{Value}
use Rattle.y_tree.specs.Tree.{Tree}
use Rattle.y_tree.specs.Meaning.{Assignment, meaning}
use Rattle.value_texts.specs.Texts.{value_text}
use Rattle.term_shapes.specs.declared.handles.Term.{Term}
use Rattle.term_table.specs.World.{World, IsTable}
use Rattle.term_build.specs.Building.{AreKnown}
use Rattle.model_eval.specs.Models.{assignment_of}
use Rattle.expression_terms.specs.Standing.{StandsFor}
use Rattle.yices_session.specs.declared.session.Declared.{Declared}
use Rattle.yices_session.specs.Held.{Held, AreDeclared, AreTruths, IsKeptModel, Stands, IsSession, name_terms}
use Rattle.yices_session.specs.Parts.{AreShown}
use Rattle.yices_session.specs.Answers.{Moves}
use Rattle.yices_session.specs.Replies.{name_lines, model_text}
use Rattle.yices_session.specs.State.{Named, Kept, State, core_terms, stacked_terms}
use Rattle.yices_session.specs.Steps.{ShowsModel}
use Rattle.yices_session.proofs.NameTrees.{names_stand, declared_truths}
use Rattle.yices_session.proofs.Viewing.{plain_name}
use Rattle.yices_session.proofs.TruthValues.{truths_one}

-- names that are declared are shown where the term of each stands for its tree
pub declared_shown : (w : World) (ds : List Declared) (ns : List Named) → AreDeclared (map plain_name ds) ns → ((i : ℕ) (n : Named) → slice_get ns i ≡ Some n → StandsFor w n.tree n.term) → AreShown w ds ns
declared_shown w [] [] h stands = tt
declared_shown w [] (n ∷ ns) h stands = absurd h
declared_shown w (d ∷ ds) [] h stands = absurd h
declared_shown w (d ∷ ds) (n ∷ ns) h stands =
    (ap (λ z. z.name) h.0, ap (λ z. z.has_value) h.0, subst (StandsFor w n.tree) (sym (ap (λ z. z.term) h.0)) (stands 0 n refl), declared_shown w ds ns h.2 (λ i. stands (suc i)))

-- the item of a loop
pub item_there : {X : Type 0} (xs : List X) (i : ℕ) (x : X) → i < length xs → x ≡ get_or xs i x → slice_get xs i ≡ Some x
item_there xs i x within is = slice_get-get_or xs i x within ∙ ap Some (sym is)

-- a name that is shown has truth values alone below its term
pub name_truths : (w : World) (ds : List Declared) (i : ℕ) (d : Declared) → AreTruths w (map (λ (d : Declared). d.term) ds) → slice_get ds i ≡ Some d → AreTruths w (d.term ∷ [])
name_truths w ds i d truths e =
    truths_one w (map (λ (d : Declared). d.term) ds) d.term truths (record { place = i; at = slice_get-map (λ (d : Declared). d.term) ds i ∙ ap (option_map (λ (d : Declared). d.term)) e })

-- the name at a place is that of the state there
pub record IsShownBy (w : World) (ns : List Named) (i : ℕ) (d : Declared) : Type 0 where
  pub by : Named
  pub at : slice_get ns i ≡ Some by
  pub name : d.name ≡ by.name
  pub has_value : d.has_value ≡ by.has_value
  pub stands : StandsFor w by.tree d.term

shown_at : (w : World) (ds : List Declared) (ns : List Named) → AreShown w ds ns → (i : ℕ) (d : Declared) → slice_get ds i ≡ Some d → IsShownBy w ns i d
shown_at w [] ns h i d e = absurd (cc e)
shown_at w (x ∷ ds) [] h i d e = absurd h
shown_at w (x ∷ ds) (n ∷ ns) (p, q, s, h) zero d e = subst (IsShownBy w (n ∷ ns) 0) (same_Some x d e) (record { by = n; at = refl; name = p; has_value = q; stands = s })
shown_at w (x ∷ ds) (n ∷ ns) (p, q, s, h) (suc i) d e =
    let b = shown_at w ds ns h i d e in record { by = b.by; at = b.at; name = b.name; has_value = b.has_value; stands = b.stands }

shown_length : (w : World) (ds : List Declared) (ns : List Named) → AreShown w ds ns → length ns ≡ length ds
shown_length w [] [] h = refl
shown_length w [] (n ∷ ns) h = absurd h
shown_length w (d ∷ ds) [] h = absurd h
shown_length w (d ∷ ds) (n ∷ ns) (p, q, s, h) = ap suc (shown_length w ds ns h)

-- the text, and then the lines from some place on, are the lines of all names
abbrev pub AreLines : World → Assignment → List Declared → ℕ → List ℕ → Type 0
AreLines w a ds i text = (ns : List Named) → AreShown w ds ns → name_lines a ns ≡ text ++ name_lines a (drop i ns)

-- the line of a name with the text of its value
abbrev pub line_of : List ℕ → List ℕ → List ℕ
line_of name value = codes "(= " ++ name ++ codes " " ++ value ++ codes ")\n"

module _ (w : World) (a : Assignment) (ds : List Declared) (i : ℕ) (text : List ℕ) where
  module _ (d : Declared) (here : slice_get ds i ≡ Some d) (known : AreLines w a ds i text) where
    one_line : Bool → List ℕ → List ℕ → List Named → List ℕ
    one_line b name value ns = text ++ (cond b [] (line_of name value) ++ name_lines a (drop (i + 1) ns))

    next_line : (ns : List Named) (shown : AreShown w ds ns) → let n = (shown_at w ds ns shown i d here).by in name_lines a ns ≡ one_line n.has_value n.name (value_text (meaning n.tree a)) ns
    unfolding one_line
    next_line ns shown =
        let b = shown_at w ds ns shown i d here in
        known ns shown ∙ at_drop_more (λ r. text ++ name_lines a r) ns i b.by (slice_get_within ns i b.by b.at)
        ∙ ap (λ (n : Named). text ++ name_lines a (n ∷ drop (i + 1) ns)) (get_or_from_slice_get ns i b.by b.by b.at)

    -- a name with a value has no line
    pub line_skipped : d.has_value ≡ true → AreLines w a ds (i + 1) text
    unfolding one_line
    line_skipped defined ns shown =
        let b = shown_at w ds ns shown i d here in
        next_line ns shown ∙ ap (λ z. one_line z b.by.name (value_text (meaning b.by.tree a)) ns) (sym b.has_value ∙ defined)

    -- another one has its value in it
    pub line_written : (value more : List ℕ) → d.has_value ≡ false → ((t : Tree) → StandsFor w t d.term → value ≡ value_text (meaning t a)) → more ≡ text ++ line_of d.name value → AreLines w a ds (i + 1) more
    unfolding one_line
    line_written value more declared means written ns shown =
        let b = shown_at w ds ns shown i d here in
        next_line ns shown ∙ ap (λ z. one_line z b.by.name (value_text (meaning b.by.tree a)) ns) (sym b.has_value ∙ declared)
        ∙ ap (λ z. one_line false z (value_text (meaning b.by.tree a)) ns) (sym b.name) ∙ ap (λ z. one_line false d.name z ns) (sym (means b.by.tree b.stands))
        ∙ sym (append_assoc text (line_of d.name value) (name_lines a (drop (i + 1) ns))) ∙ ap (λ z. z ++ name_lines a (drop (i + 1) ns)) (sym written)

  pub lines_end : length ds ≤ i → AreLines w a ds i text → (ns : List Named) → AreShown w ds ns → text ≡ name_lines a ns
  lines_end h known ns shown = sym (known ns shown ∙ at_drop_all (λ r. text ++ name_lines a r) ns i (subst (λ n. n ≤ i) (sym (shown_length w ds ns shown)) h) ∙ append-nil text)

-- the model that is kept is the one of the state
model_lines : (w : World) (o : Option (List (Term × Value))) (k : Option Kept) (m : List (Term × Value)) (ns : List Named) (text : List ℕ) → o ≡ Some m → IsKeptModel w o k → text ≡ name_lines (assignment_of w m) ns → text ≡ model_text k ns
model_lines w o k m ns text is kept lines = by k (subst (λ z. IsKeptModel w z k) is kept)
  where
    by : (k : Option Kept) → IsKeptModel w (Some m) k → text ≡ model_text k ns
    by None h = absurd h
    by (Some x) h = lines ∙ ap (λ z. name_lines z ns) (sym h.1)

no_lines : (w : World) (o : Option (List (Term × Value))) (k : Option Kept) (ns : List Named) → o ≡ None → IsKeptModel w o k → codes "no model\n" ≡ model_text k ns
no_lines w o k ns is kept = by k (subst (λ z. IsKeptModel w z k) is kept)
  where
    by : (k : Option Kept) → IsKeptModel w None k → codes "no model\n" ≡ model_text k ns
    by None h = refl
    by (Some x) h = absurd h

-- the terms of the names of a session have truth values alone below them
pub session_truths : (h : Held) (w : World) (ds : List Declared) → IsSession h → w ≡ h.env.table → map plain_name ds ≡ h.declared → AreTruths w (map (λ (d : Declared). d.term) ds)
session_truths h w ds (s, stands) at are =
    let others = stacked_terms s.lists ++ core_terms s.core in
    declared_truths w ds s.names others (subst (λ z. AreDeclared z s.names) (sym are) stands.declared) (subst (λ z. AreTruths z (name_terms s.names ++ others)) (stands.table ∙ sym at) stands.truths)

module _ (h g : Held) (seen : h ≡ g) where
  shows : (text : List ℕ) → ((s : State) → Stands h s → text ≡ model_text s.model s.names) → Moves ShowsModel g text g
  shows text lines = record { turns = refl; each = λ s stands. (s, record { says = lines s (subst (λ z. Stands z s) (sym seen) stands); after = refl }, stands) }

  -- a model is kept
  pub shows_model : AreKnown → (w : World) → IsTable w → (ds : List Declared) (m : List (Term × Value)) (text : List ℕ) → w ≡ h.env.table → map plain_name ds ≡ h.declared → h.model ≡ Some m
      → ((ns : List Named) → AreShown w ds ns → text ≡ name_lines (assignment_of w m) ns) → Moves ShowsModel g text g
  shows_model laws w table ds m text at are kept lines = shows text (λ s stands.
      let same : s.table ≡ w = stands.table ∙ sym at in
      model_lines w h.model s.model m s.names text kept (subst (λ z. IsKeptModel z h.model s.model) same stands.model)
      (lines s.names (declared_shown w ds s.names (subst (λ z. AreDeclared z s.names) (sym are) stands.declared)
      (subst (λ z. (i : ℕ) (n : Named) → slice_get s.names i ≡ Some n → StandsFor z n.tree n.term) same
      (names_stand laws s.table (subst IsTable (sym same) table) (name_terms s.names ++ s.parts) s.names stands.trees stands.names)))))

  -- none is kept
  pub shows_none : h.model ≡ None → Moves ShowsModel g (codes "no model\n") g
  shows_none none_kept = shows (codes "no model\n") (λ s stands. no_lines s.table h.model s.model s.names none_kept stands.model)
