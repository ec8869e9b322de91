-- Names that are bound one after another, and taken away again.
use Rattle.std.proofs.Common.{◌≡◌, ◌∙◌, ℕ, ◌+◌, ◌-◌, ◌<◌, ◌≤◌, Bool, true, false, ◌||◌, if◌then◌else◌, List, [], ◌∷◌, ◌++◌, Option, Some, None, is_some, Result, Ok, Err, length, map, get_or, take, drop, append_assoc, refl, sym, ap, arith}
use Rattle.std.specs.Prelude.{is_err, OnOk}
use Rattle.std.specs.List.{list_any}
use Rattle.std.specs.Str.{bytes_eq}
use Rattle.std.proofs.lemmas.List.{drop_more, drop-map, take_more, map-append, get_or-map, get_or-take, get_or_default, length-map, length-take-le}
use Rattle.std.proofs.lemmas.Option.{slice_get_read}
use Rattle.std.proofs.lemmas.Slice.Eq.{bytes_eq-Decides}
use Rattle.name_stacks.specs.Names.{newest, without_newest, or_else}
use Rattle.name_stacks.proofs.Heading.{newest_pushed}
use Rattle.term_shapes.specs.declared.handles.Term.{Term}
use Rattle.yices_grammar.specs.Commands as grammar
use Rattle.yices_commands.specs.declared.command.Bind.{Bind, out-Bind, fold_out-Bind}
use Rattle.yices_commands.specs.Plain.{form_layer, bind_layer, expr_layer, plain, plain_bind}
use Rattle.expression_terms.specs.Bound.{binding_names, IsBoundBy}
use Rattle.expression_terms.specs.Trees.{repeated, repeated_behind}

-- a binding is its name with what it is bound to
bind_out : (b : Bind) → plain_bind b ≡ record { name = (out-Bind b).name; expr = plain (out-Bind b).expr }
unfolding plain plain_bind
bind_out b = fold_out-Bind grammar.ExprForm grammar.Bind grammar.Expr form_layer bind_layer expr_layer b

pub bind_name : (b : Bind) → (plain_bind b).name ≡ (out-Bind b).name
bind_name b = ap (λ (z : grammar.Bind). z.name) (bind_out b)

abbrev name_of : Bind → List ℕ
name_of b = (plain_bind b).name

-- names are compared either way
itself : (xs : List ℕ) → bytes_eq xs xs ≡ true
itself xs = (bytes_eq-Decides xs xs).1 refl

other_way : (xs ys : List ℕ) → bytes_eq xs ys ≡ bytes_eq ys xs
other_way xs ys = by (bytes_eq xs ys) refl (bytes_eq ys xs) refl
  where
    by : (a : Bool) → bytes_eq xs ys ≡ a → (b : Bool) → bytes_eq ys xs ≡ b → bytes_eq xs ys ≡ bytes_eq ys xs
    by true e true f = e ∙ sym f
    by false e false f = e ∙ sym f
    by true e false f = absurd (cc (sym f ∙ (bytes_eq-Decides ys xs).1 (sym ((bytes_eq-Decides xs ys).0 e))))
    by false e true f = absurd (cc (sym e ∙ (bytes_eq-Decides xs ys).1 (sym ((bytes_eq-Decides ys xs).0 f))))

-- names that were met, the newest first
abbrev pub met : List (List ℕ × ℕ) → List (List ℕ) → List (List ℕ)
met [] earlier = earlier
met (p ∷ ps) earlier = met ps (p.0 ∷ earlier)

met_more : (ps : List (List ℕ × ℕ)) (p : List ℕ × ℕ) (earlier : List (List ℕ)) → met (ps ++ p ∷ []) earlier ≡ p.0 ∷ met ps earlier
met_more [] p earlier = refl
met_more (q ∷ ps) p earlier = met_more ps p (q.0 ∷ earlier)

or_assoc : (a b c : Bool) → (a || (b || c)) ≡ ((a || b) || c)
or_assoc true b c = refl
or_assoc false b c = refl

some_or : (o : Option ℕ) (b : Bool) (n : ℕ) → is_some (or_else o (if b then Some n else None)) ≡ (is_some o || b)
some_or None true n = refl
some_or None false n = refl
some_or (Some m) b n = refl

-- a name was met where it has a newest place
is_met : (w : List ℕ) (ps : List (List ℕ × ℕ)) (earlier : List (List ℕ)) → list_any (bytes_eq w) (met ps earlier) ≡ (is_some (newest w ps) || list_any (bytes_eq w) earlier)
is_met w [] earlier = refl
is_met w (p ∷ ps) earlier =
    is_met w ps (p.0 ∷ earlier) ∙ or_assoc (is_some (newest w ps)) (bytes_eq w p.0) (list_any (bytes_eq w) earlier)
    ∙ ap (λ b. (is_some (newest w ps) || b) || list_any (bytes_eq w) earlier) (other_way w p.0)
    ∙ ap (λ b. b || list_any (bytes_eq w) earlier) (sym (some_or (newest w ps) (bytes_eq p.0 w) p.1))

or_false : (b : Bool) → (b || false) ≡ b
or_false true = refl
or_false false = refl

met_only : (w : List ℕ) (ps : List (List ℕ × ℕ)) → list_any (bytes_eq w) (met ps []) ≡ is_some (newest w ps)
met_only w ps = is_met w ps [] ∙ or_false (is_some (newest w ps))

-- the names from a place on
names_next : (bs : List Bind) (i : ℕ) (b : Bind) → i < length bs → b ≡ get_or bs i b → drop i (binding_names bs) ≡ (out-Bind b).name ∷ drop (i + 1) (binding_names bs)
names_next bs i b h is =
    drop-map name_of i bs ∙ ap (map name_of) (drop_more bs i b h)
    ∙ ap (λ z. z ∷ map name_of (drop (i + 1) bs)) (ap name_of (sym is) ∙ bind_name b) ∙ ap (λ z. (out-Bind b).name ∷ z) (sym (drop-map name_of (i + 1) bs))

-- the first name that is repeated, where the names before a place were met
module _ (bs : List Bind) (seen : List (List ℕ × ℕ)) (i : ℕ) (b : Bind) (w : List ℕ) (h : i < length bs) (is : b ≡ get_or bs i b) (at : w ≡ (out-Bind (get_or bs i b)).name) (so_far : repeated (binding_names bs) ≡ repeated_behind (met seen []) (drop i (binding_names bs))) where
  name : w ≡ (out-Bind b).name
  name = at ∙ ap (λ z. (out-Bind z).name) (sym is)

  tested : repeated (binding_names bs) ≡ (if is_some (newest w seen) then Some w else repeated_behind (w ∷ met seen []) (drop (i + 1) (binding_names bs)))
  tested =
      so_far ∙ ap (repeated_behind (met seen [])) (names_next bs i b h is ∙ ap (λ z. z ∷ drop (i + 1) (binding_names bs)) (sym name))
      ∙ ap (λ t. if t then Some w else repeated_behind (w ∷ met seen []) (drop (i + 1) (binding_names bs))) (met_only w seen)

  pub repeats_here : is_some (newest w seen) ≡ true → IsBoundBy bs i (repeated (binding_names bs))
  repeats_here t =
      (b, slice_get_read bs (length bs) i b refl h is, tested ∙ ap (λ t. if t then Some w else repeated_behind (w ∷ met seen []) (drop (i + 1) (binding_names bs))) t ∙ ap Some (name ∙ sym (bind_name b)))

  same_name : (a : Bind) → (out-Bind (get_or bs i a)).name ≡ w
  same_name a = ap (λ z. (out-Bind z).name) (get_or_default bs i a b h) ∙ sym at

  pub repeats_later : is_some (newest w seen) ≡ false → (p : List ℕ × ℕ) (a : Bind) → p.0 ≡ (out-Bind (get_or bs i a)).name → (new : List (List ℕ × ℕ)) → new ≡ seen ++ p ∷ [] → repeated (binding_names bs) ≡ repeated_behind (met new []) (drop (i + 1) (binding_names bs))
  repeats_later t p a e new n =
      tested ∙ ap (λ t. if t then Some w else repeated_behind (w ∷ met seen []) (drop (i + 1) (binding_names bs))) t
      ∙ ap (λ z. repeated_behind z (drop (i + 1) (binding_names bs))) (ap (λ z. z ∷ met seen []) (sym (e ∙ same_name a)) ∙ sym (met_more seen p []) ∙ ap (λ z. met z []) (sym n))

-- the newest name is taken away
newest_last : {H : Type 0} (name : List ℕ) (ps : List (List ℕ × H)) (x : H) → newest name (ps ++ (name, x) ∷ []) ≡ Some x
newest_last name ps x = newest_pushed name ps (name, x) ∙ ap (λ b. or_else (if b then Some x else None) (newest name ps)) (itself name)

without_last : {H : Type 0} (name : List ℕ) (ps : List (List ℕ × H)) (x : H) → without_newest name (ps ++ (name, x) ∷ []) ≡ ps
without_last name [] x = ap (λ b. if b then [] else (name, x) ∷ []) (itself name)
without_last name (p ∷ ps) x =
    ap (λ o. if is_some o then p ∷ without_newest name (ps ++ (name, x) ∷ []) else (if bytes_eq p.0 name then ps ++ (name, x) ∷ [] else p ∷ (ps ++ (name, x) ∷ []))) (newest_last name ps x)
    ∙ ap (λ z. p ∷ z) (without_last name ps x)

module _ (bs : List Bind) (ps : List (List ℕ × Term)) (count : ℕ) (within : count ≤ length bs) (named : map (λ (p : List ℕ × Term). p.0) ps ≡ take count (binding_names bs)) where
  as_many : length ps ≡ count
  as_many = omega (arith, length-map ps (λ (p : List ℕ × Term). p.0), ap length named, length-take-le count (binding_names bs) (omega (arith, length-map bs name_of, within)), within)

  name_at : (m : ℕ) (b : Bind) (p : List ℕ × Term) → m < count → b ≡ get_or bs m b → (get_or ps m p).0 ≡ (out-Bind b).name
  name_at m b p h is =
      sym (get_or-map (λ (p : List ℕ × Term). p.0) ps m p [] (omega (arith, as_many, h))) ∙ ap (λ z. get_or z m []) named ∙ get_or-take count (binding_names bs) m [] h
      ∙ get_or-map name_of bs m b [] (omega (arith, within, h)) ∙ ap name_of (sym is) ∙ bind_name b

  module _ (before now new : List (List ℕ × Term)) (m : ℕ) (b : Bind) (h : m < count) (is : b ≡ get_or bs m b) where
    last_taken : (w : List ℕ) → w ≡ (out-Bind b).name → (p : List ℕ × Term) → now ≡ before ++ take (m + 1) ps → new ≡ without_newest w now → new ≡ before ++ take m ps
    last_taken w e p was gone =
        let x : List ℕ × Term = get_or ps m p in
        let one : take (m + 1) ps ≡ take m ps ++ (w, x.1) ∷ [] = take_more ps m p (omega (arith, as_many, h)) ∙ ap (λ (z : List ℕ). take m ps ++ (z, x.1) ∷ []) (name_at m b p h is ∙ sym e) in
        let all : before ++ take (m + 1) ps ≡ (before ++ take m ps) ++ (w, x.1) ∷ [] = ap (λ z. before ++ z) one ∙ sym (append_assoc before (take m ps) ((w, x.1) ∷ [])) in
        gone ∙ ap (without_newest w) (was ∙ all) ∙ without_last w (before ++ take m ps) x.1

  -- one of the first names, taken away after those behind it
  pub unbind_step : (before now new : List (List ℕ × Term)) (i : ℕ) (b : Bind) → i < count → b ≡ get_or bs (count - 1 - i) b → now ≡ before ++ take (count - i) ps
      → new ≡ without_newest (out-Bind (get_or bs (count - 1 - i) b)).name now → new ≡ before ++ take (count - (i + 1)) ps
  unbind_step before now new i b h is was gone =
      let one : count - i ≡ (count - 1 - i) + 1 = omega (arith, h) in
      let less : count - 1 - i ≡ count - (i + 1) = omega (arith, h) in
      last_taken before now new (count - 1 - i) b (omega (arith, h)) is (out-Bind (get_or bs (count - 1 - i) b)).name (ap (λ z. (out-Bind z).name) (sym is)) ((out-Bind b).name, record { slot = 0; stamp = 0 }) (was ∙ ap (λ z. before ++ take z ps) one) gone
      ∙ ap (λ z. before ++ take z ps) less

-- the first names are bound to the first terms
abbrev pub FirstBound : List Bind → List Term → List (List ℕ × Term) → ℕ → List (List ℕ × Term) → Type 0
FirstBound bs ts old i new = (ps : List (List ℕ × Term)) × (new ≡ old ++ ps) × (map (λ (p : List ℕ × Term). p.0) ps ≡ take i (binding_names bs)) × (map (λ (p : List ℕ × Term). p.1) ps ≡ take i ts)

pub when_ok : {A E : Type 0} {P : Type 0} (r : Result A E) → is_err r ≡ false → OnOk r P → P
when_ok (Ok x) e h = h
when_ok (Err x) e h = absurd (cc e)

-- one more
pub bound_more : (bs : List Bind) (ts : List Term) (old now new : List (List ℕ × Term)) (i : ℕ) (b : Bind) (t : Term) → length ts ≡ length bs → i < length bs → b ≡ get_or bs i b → FirstBound bs ts old i now
    → new ≡ now ++ ((out-Bind (get_or bs i b)).name, get_or ts i t) ∷ [] → FirstBound bs ts old (i + 1) new
bound_more bs ts old now new i b t same h is (ps, was, names, terms) one =
    let p : List ℕ × Term = ((out-Bind (get_or bs i b)).name, get_or ts i t) in (
      ps ++ p ∷ [],
      one ∙ ap (λ z. z ++ p ∷ []) was ∙ append_assoc old ps (p ∷ []),
      map-append (λ (q : List ℕ × Term). q.0) ps (p ∷ []) ∙ ap (λ z. z ++ (out-Bind (get_or bs i b)).name ∷ []) names
          ∙ ap (λ z. take i (binding_names bs) ++ z ∷ []) (sym (get_or-map name_of bs i b [] h ∙ bind_name (get_or bs i b)))
          ∙ sym (take_more (binding_names bs) i [] (omega (arith, length-map bs name_of, h))),
      map-append (λ (q : List ℕ × Term). q.1) ps (p ∷ []) ∙ ap (λ z. z ++ get_or ts i t ∷ []) terms ∙ sym (take_more ts i t (omega (arith, same, h))),
    )
