-- Types, and the function types that they stand in.
use Rattle.std.proofs.Common.{◌≡◌, ◌∙◌, ℕ, Bool, true, false, Some, None, List, [], ◌∷◌, ◌++◌, map, refl, sym, ap, append-nil, append_assoc}
use Rattle.std.specs.Prelude.{codes, if◌then◌else◌, option_map, reverse}
use Rattle.std.proofs.lemmas.List.{reverse-append, map-append}
use Rattle.std.specs.Str.{bytes_eq}
use Rattle.yices_grammar.specs.declared.Place.{Place}
use Rattle.yices_grammar.specs.Tokens.{open_bracket, close_bracket, word}
use Rattle.yices_grammar.specs.Words.{is_type_name, is_whole}
use Rattle.yices_grammar.specs.Commands as grammar
use Rattle.yices_grammar.specs.Commands.{type_at, named, bool, real, arrow, bitvector, types, expr_at, forall_in, Command}
use Rattle.yices_grammar.specs.Parts.{closing, expression, declaration, type, type_form, Item, sign, part, many, Maker}
use Rattle.yices_grammar.specs.Grammar.{rules, arrow_of}
use Rattle.yices_grammar.specs.Machine.{left, enter, step}
use Rattle.yices_commands.specs.declared.command.TypeExpr.{TypeExpr, roll-TypeExpr}
use Rattle.yices_commands.specs.declared.command.TypeForm.{TypeForm}
use Rattle.yices_commands.specs.declared.command.TypeForm.TheVariants as code_form
use Rattle.yices_commands.specs.declared.command.Decl.{Decl}
use Rattle.yices_commands.specs.declared.command.Action.TheVariants as action
use Rattle.yices_commands.specs.declared.state.Around.{Around}
use Rattle.yices_commands.specs.declared.state.Arrow.{Arrow}
use Rattle.yices_commands.specs.declared.state.AroundType.{AroundType}
use Rattle.yices_commands.specs.declared.state.TypePurpose.{TypePurpose}
use Rattle.yices_commands.specs.declared.state.TypePurpose.TheVariants as type_purpose
use Rattle.yices_commands.specs.declared.state.Due.TheVariants as due
use Rattle.yices_commands.specs.declared.state.Point.{Point}
use Rattle.yices_commands.specs.declared.state.Point.TheVariants as point
use Rattle.yices_commands.specs.Plain.{plain_type, plain_type_form, plain_decl}
use Rattle.yices_parser.specs.States.{Hole, leaves, around_hole, purpose_hole, type_hole, arrow_hole, arrows_hole, arrow_due, type_due, left_at}
use Rattle.yices_parser.specs.Steps.{token_at, step_at, step_of, filled, type_filled_at, typed_at, arrow_at, arrow_step, word_type}
use Rattle.yices_lexer.proofs.Cutting.{cond_yes, cond_no}
use Rattle.yices_commands.proofs.Plain.{plain-roll-type, type-Bitvector, type-Arrow}
use Rattle.yices_parser.proofs.Entering.{or_none}
use Rattle.yices_parser.proofs.Filling.{more_items}

-- what a whole type leads to
pub ends_define_type : (p : Place) (g : TypePurpose) (w : List ℕ) (t : TypeExpr) → g ≡ type_purpose.DefineType w → left_at p (point.End (action.DefineTypeAs w t)) ≡ typed_at p g (plain_type t)
unfolding left_at typed_at
ends_define_type p g w t h = ap (λ x. typed_at p x (plain_type t)) (sym h)

pub ends_define : (p : Place) (g : TypePurpose) (w : List ℕ) (t : TypeExpr) → g ≡ type_purpose.Define w → left_at p (point.ExprOrEnd w t) ≡ typed_at p g (plain_type t)
unfolding left_at typed_at
ends_define p g w t h = ap (λ x. typed_at p x (plain_type t)) (sym h)

declarations_due : (p : Place) (a : Around) (q : Place) (ds ys : List Decl) (d : Decl) → ys ≡ ds ++ d ∷ []
    → left_at p (point.Token a q (due.Declaration ys)) ≡ leaves (many declaration ∷ sign closing ∷ part expression ∷ sign closing ∷ (around_hole p a).items) (λ zs v. (around_hole p a).make (expr_at q (forall_in (map plain_decl ys ++ zs) v)))
unfolding left_at
declarations_due p a q [] ys d h = rw h refl
declarations_due p a q (c ∷ ds) ys d h = rw h refl

pub ends_variable : (p : Place) (a : Around) (q : Place) (ds ys : List Decl) (w : List ℕ) (t : TypeExpr) → ys ≡ ds ++ record { name = w; of = t } ∷ []
    → left_at p (point.Token a q (due.Declaration ys)) ≡ typed_at p (type_purpose.Variable a q ds w) (plain_type t)
unfolding typed_at
ends_variable p a q ds ys w t h =
    declarations_due p a q ds ys (record { name = w; of = t }) h
    ∙ ap (λ (g : List grammar.Decl → List grammar.Decl). leaves (many declaration ∷ sign closing ∷ part expression ∷ sign closing ∷ (around_hole p a).items) (λ zs v. (around_hole p a).make (expr_at q (forall_in (g zs) v))))
    (more_items plain_decl ds ys (record { name = w; of = t }) h)

-- a function type more
pub arrow_opens : (p : Place) (a : AroundType) (bs : List Arrow) (q : Place) (ts : List TypeExpr) → bs ≡ a.arrows ++ record { place = q; types = ts } ∷ []
    → left_at p (point.Type (record { purpose = a.purpose; arrows = bs })) ≡ arrow_at p a q ts
unfolding left_at arrow_at
arrow_opens p a bs q ts h = ap (type_due (purpose_hole p a.purpose)) (ap reverse h ∙ reverse-append a.arrows (record { place = q; types = ts } ∷ []))

-- one type more in a function type
arrow_more : (q : Place) (rest : Hole grammar.TypeExpr) (ts us : List TypeExpr) (t : TypeExpr) → us ≡ ts ++ t ∷ [] → arrow_due us q rest ≡ filled (arrow_hole ts q rest) (plain_type t)
arrow_more q rest [] us t h = rw h refl
arrow_more q rest (x ∷ []) us t h = rw h refl
arrow_more q rest (x ∷ y ∷ ts) us t h =
    ap (λ zs. arrow_due zs q rest) h
    ∙ ap (λ (g : List grammar.TypeExpr → List grammar.TypeExpr). leaves (many type ∷ sign closing ∷ rest.items) (λ zs. rest.make (type_at q (arrow_of (plain_type x ∷ []) (plain_type y) (g zs))))) (more_items plain_type ts (ts ++ t ∷ []) t refl)

-- the innermost function type is taken away, and the type is what was due in it
type_push : (p : Place) (a : AroundType) (bs : List Arrow) (q : Place) (ts : List TypeExpr) (t : TypeExpr) → a.arrows ≡ bs ++ record { place = q; types = ts } ∷ []
    → type_filled_at p a (plain_type t) ≡ filled (arrows_hole (purpose_hole p a.purpose) (record { place = q; types = ts } ∷ reverse bs)) (plain_type t)
unfolding type_filled_at
type_push p a bs q ts t h = ap (λ x. filled (arrows_hole (purpose_hole p a.purpose) x) (plain_type t)) (ap reverse h ∙ reverse-append bs (record { place = q; types = ts } ∷ []))

pub attaches_part : (p : Place) (a : AroundType) (bs : List Arrow) (q : Place) (ts us : List TypeExpr) (t : TypeExpr) → a.arrows ≡ bs ++ record { place = q; types = ts } ∷ [] → us ≡ ts ++ t ∷ []
    → arrow_at p (record { purpose = a.purpose; arrows = bs }) q us ≡ type_filled_at p a (plain_type t)
unfolding arrow_at
attaches_part p a bs q ts us t h k = arrow_more q (arrows_hole (purpose_hole p a.purpose) (reverse bs)) ts us t k ∙ sym (type_push p a bs q ts t h)

pub attaches_whole : (p : Place) (a : AroundType) (t : TypeExpr) → a.arrows ≡ [] → typed_at p a.purpose (plain_type t) ≡ type_filled_at p a (plain_type t)
unfolding typed_at type_filled_at
attaches_whole p a t h = ap (λ x. filled (arrows_hole (purpose_hole p a.purpose) (reverse x)) (plain_type t)) (sym h)

-- a chain of choices, each with a function
map_types : {X Y : Type 0} (g : X → Y) (a b c : Bool) (t u v : X)
    → (if a then Some (g t) else if b then Some (g u) else if c then Some (g v) else None) ≡ option_map g (if a then Some t else if b then Some u else if c then Some v else None)
map_types g true b c t u v = refl
map_types g false true c t u v = refl
map_types g false false true t u v = refl
map_types g false false false t u v = refl

-- a word where a type is due
pub enter_type : (rest : List Item) (make : grammar.TypeExpr → Maker rest Command) (q : Place) (z : List ℕ)
    → enter Command (rules type) rest make (token_at q (word z)) ≡ option_map (λ f. left Command rest (make (type_at q f))) (word_type z)
unfolding word_type
enter_type rest make q z = map_types (λ f. left Command rest (make (type_at q f))) (is_type_name z) (bytes_eq z (codes "bool")) (bytes_eq z (codes "real")) (named z) bool real

arrow_due_word : (ts : List TypeExpr) (p : Place) (rest : Hole grammar.TypeExpr) (q : Place) (z : List ℕ)
    → step_of (arrow_due ts p rest) (token_at q (word z)) ≡ option_map (λ f. filled (arrow_hole ts p rest) (type_at q f)) (word_type z)
unfolding step
arrow_due_word [] p rest q z = enter_type (arrow_hole [] p rest).items (arrow_hole [] p rest).make q z
arrow_due_word (t ∷ []) p rest q z = enter_type (arrow_hole (t ∷ []) p rest).items (arrow_hole (t ∷ []) p rest).make q z
arrow_due_word (t ∷ u ∷ us) p rest q z = or_none _ ∙ enter_type (arrow_hole (t ∷ u ∷ us) p rest).items (arrow_hole (t ∷ u ∷ us) p rest).make q z

type_due_word : (rest : Hole grammar.TypeExpr) (bs : List Arrow) (q : Place) (z : List ℕ) → step_of (type_due rest bs) (token_at q (word z)) ≡ option_map (λ f. filled (arrows_hole rest bs) (type_at q f)) (word_type z)
unfolding step
type_due_word rest [] q z = enter_type rest.items rest.make q z
type_due_word rest (b ∷ bs) q z = arrow_due_word b.types b.place (arrows_hole rest bs) q z

pub type_word_some : (p : Place) (a : AroundType) (q : Place) (z : List ℕ) (f : TypeForm) (x : Point) → word_type z ≡ Some (plain_type_form f) → left_at p x ≡ type_filled_at p a (plain_type (roll-TypeExpr (record { place = q; form = f })))
    → step_at p (point.Type a) (token_at q (word z)) ≡ Some (left_at p x)
unfolding step_at left_at type_filled_at
type_word_some p a q z f x h k =
    type_due_word (purpose_hole p a.purpose) (reverse a.arrows) q z ∙ ap (option_map (λ g. filled (type_hole p a) (type_at q g))) h
    ∙ ap (λ t. Some (filled (type_hole p a) t)) (sym (plain-roll-type q f)) ∙ ap Some (sym k)

pub type_word_none : (p : Place) (a : AroundType) (q : Place) (z : List ℕ) → word_type z ≡ None → step_at p (point.Type a) (token_at q (word z)) ≡ None
unfolding step_at left_at
type_word_none p a q z h = type_due_word (purpose_hole p a.purpose) (reverse a.arrows) q z ∙ ap (option_map (λ g. filled (type_hole p a) (type_at q g))) h

-- an opening bracket where a type is due
arrow_due_open : (ts : List TypeExpr) (p : Place) (rest : Hole grammar.TypeExpr) (q : Place)
    → step_of (arrow_due ts p rest) (token_at q open_bracket) ≡ Some (leaves (part type_form ∷ (arrow_hole ts p rest).items) (λ f. (arrow_hole ts p rest).make (type_at q f)))
unfolding step
arrow_due_open [] p rest q = refl
arrow_due_open (t ∷ []) p rest q = refl
arrow_due_open (t ∷ u ∷ us) p rest q = refl

type_due_open : (rest : Hole grammar.TypeExpr) (bs : List Arrow) (q : Place)
    → step_of (type_due rest bs) (token_at q open_bracket) ≡ Some (leaves (part type_form ∷ (arrows_hole rest bs).items) (λ f. (arrows_hole rest bs).make (type_at q f)))
unfolding step
type_due_open rest [] q = refl
type_due_open rest (b ∷ bs) q = arrow_due_open b.types b.place (arrows_hole rest bs) q

pub type_open : (p : Place) (a : AroundType) (q : Place) → step_at p (point.Type a) (token_at q open_bracket) ≡ Some (left_at p (point.TypeForm a q))
unfolding step_at left_at
type_open p a q = type_due_open (purpose_hole p a.purpose) (reverse a.arrows) q

module _ (p : Place) (a : AroundType) (q : Place) (t : Place) where
  -- the word of a form of types
  pub type_form_bitvector : (z : List ℕ) → bytes_eq z (codes "bitvector") ≡ true → step_at p (point.TypeForm a q) (token_at t (word z)) ≡ Some (left_at p (point.TypeWidth a q))
  unfolding step_at left_at step
  type_form_bitvector z h = cond_yes (bytes_eq z (codes "bitvector")) _ _ h

  pub type_form_arrow : (z : List ℕ) (ts : List TypeExpr) (x : Point) → bytes_eq z (codes "bitvector") ≡ false → bytes_eq z (codes "->") ≡ true → ts ≡ [] → left_at p x ≡ arrow_at p a q ts
      → step_at p (point.TypeForm a q) (token_at t (word z)) ≡ Some (left_at p x)
  unfolding step_at left_at step arrow_at
  type_form_arrow z ts x h i e k = cond_no (bytes_eq z (codes "bitvector")) _ _ h ∙ cond_yes (bytes_eq z (codes "->")) _ _ i ∙ ap (λ v. Some (arrow_at p a q v)) (sym e) ∙ ap Some (sym k)

  pub type_form_none : (z : List ℕ) → bytes_eq z (codes "bitvector") ≡ false → bytes_eq z (codes "->") ≡ false → step_at p (point.TypeForm a q) (token_at t (word z)) ≡ None
  unfolding step_at left_at step
  type_form_none z h i = cond_no (bytes_eq z (codes "bitvector")) _ _ h ∙ cond_no (bytes_eq z (codes "->")) _ _ i

  -- the width of bit-vectors
  pub type_width_some : (z w : List ℕ) → is_whole z ≡ true → w ≡ z → step_at p (point.TypeWidth a q) (token_at t (word z)) ≡ Some (left_at p (point.TypeEnd a q w))
  unfolding step_at left_at step
  type_width_some z w h e = cond_yes (is_whole z) _ _ h ∙ ap (λ v. Some (left_at p (point.TypeEnd a q v))) (sym e)

  pub type_width_none : (z : List ℕ) → is_whole z ≡ false → step_at p (point.TypeWidth a q) (token_at t (word z)) ≡ None
  unfolding step_at left_at step
  type_width_none z h = cond_no (is_whole z) _ _ h

  pub bitvector_close : (n : List ℕ) (x : Point) → left_at p x ≡ type_filled_at p a (plain_type (roll-TypeExpr (record { place = q; form = code_form.Bitvector n })))
      → step_at p (point.TypeEnd a q n) (token_at t close_bracket) ≡ Some (left_at p x)
  unfolding step_at left_at step type_filled_at
  bitvector_close n x k = ap (λ f. Some (filled (type_hole p a) (type_at q f))) (sym (type-Bitvector n)) ∙ ap (λ u. Some (filled (type_hole p a) u)) (sym (plain-roll-type q (code_form.Bitvector n))) ∙ ap Some (sym k)

-- the last of the types is the result
arrow_of_last : (before xs : List grammar.TypeExpr) (t u : grammar.TypeExpr) → arrow_of before t (xs ++ u ∷ []) ≡ arrow (types (before ++ t ∷ xs)) u
arrow_of_last before [] t u = refl
arrow_of_last before (x ∷ xs) t u = arrow_of_last (before ++ t ∷ []) xs x u ∙ ap (λ ts. arrow (types ts) u) (append_assoc before (t ∷ []) (x ∷ xs))

module _ (p : Place) (a : AroundType) (q : Place) (t : Place) where
  arrow_closes : (us ts : List TypeExpr) (u : TypeExpr) → ts ≡ us ++ u ∷ [] → (us ≡ [] → ⊥) → arrow_step p a q ts (token_at t close_bracket) ≡ Some (filled (type_hole p a) (type_at q (arrow (types (map plain_type us)) (plain_type u))))
  unfolding arrow_step step
  arrow_closes [] ts u h n = absurd (n refl)
  arrow_closes (x ∷ []) ts u h n = ap (λ zs. arrow_step p a q zs (token_at t close_bracket)) h
  arrow_closes (x ∷ y ∷ us) ts u h n =
      ap (λ zs. arrow_step p a q zs (token_at t close_bracket)) h
      ∙ ap (λ zs. Some (filled (type_hole p a) (type_at q (arrow_of (plain_type x ∷ []) (plain_type y) zs)))) (append-nil (map plain_type (us ++ u ∷ [])) ∙ map-append plain_type us (u ∷ []))
      ∙ ap (λ f. Some (filled (type_hole p a) (type_at q f))) (arrow_of_last (plain_type x ∷ []) (map plain_type us) (plain_type y) (plain_type u))

  pub arrow_close : (us ts : List TypeExpr) (u v : TypeExpr) (x : Point) → ts ≡ us ++ u ∷ [] → (us ≡ [] → ⊥) → v ≡ u → left_at p x ≡ type_filled_at p a (plain_type (roll-TypeExpr (record { place = q; form = code_form.Arrow us v })))
      → arrow_step p a q ts (token_at t close_bracket) ≡ Some (left_at p x)
  unfolding type_filled_at
  arrow_close us ts u v x h n e k =
      arrow_closes us ts u h n ∙ ap (λ y. Some (filled (type_hole p a) (type_at q (arrow (types (map plain_type us)) (plain_type y))))) (sym e)
      ∙ ap (λ f. Some (filled (type_hole p a) (type_at q f))) (sym (type-Arrow us v)) ∙ ap (λ y. Some (filled (type_hole p a) y)) (sym (plain-roll-type q (code_form.Arrow us v))) ∙ ap Some (sym k)

  pub arrow_close_one : (us ts : List TypeExpr) (u : TypeExpr) → ts ≡ us ++ u ∷ [] → us ≡ [] → arrow_step p a q ts (token_at t close_bracket) ≡ None
  unfolding arrow_step step
  arrow_close_one us ts u h n = ap (λ zs. arrow_step p a q zs (token_at t close_bracket)) (h ∙ ap (λ zs. zs ++ u ∷ []) n)

  pub arrow_close_none : (ts : List TypeExpr) → ts ≡ [] → arrow_step p a q ts (token_at t close_bracket) ≡ None
  unfolding arrow_step step
  arrow_close_none ts h = ap (λ zs. arrow_step p a q zs (token_at t close_bracket)) h

pub type_close_none : (p : Place) (a : AroundType) (t : Place) → a.arrows ≡ [] → step_at p (point.Type a) (token_at t close_bracket) ≡ None
unfolding step_at left_at step
type_close_none p a t h = ap (λ x. step_of (type_due (purpose_hole p a.purpose) (reverse x)) (token_at t close_bracket)) h

pub innermost_arrow : (p : Place) (a : AroundType) (bs : List Arrow) (q : Place) (ts : List TypeExpr) (t : Place) → a.arrows ≡ bs ++ record { place = q; types = ts } ∷ []
    → step_at p (point.Type a) (token_at t close_bracket) ≡ arrow_step p (record { purpose = a.purpose; arrows = bs }) q ts (token_at t close_bracket)
unfolding step_at left_at arrow_step
innermost_arrow p a bs q ts t h = ap (λ x. step_of (type_due (purpose_hole p a.purpose) x) (token_at t close_bracket)) (ap reverse h ∙ reverse-append bs (record { place = q; types = ts } ∷ []))
