-- The parity of different arguments, one argument after another.
use Rattle.std.proofs.Common.{◌≡◌, ◌∙◌, ◌+◌, ◌<◌, ◌≤◌, ◌++◌, ℕ, zero, suc, Bool, true, false, not, List, [], ◌∷◌, Some, ◌⊎◌, inl, inr, ⊎_elim, length, map, take, refl, sym, ap, subst, arith, All}
use Rattle.std.specs.Prelude.{slice_get, unwrap_or}
use Rattle.std.proofs.lemmas.Option.{same_Some, slice_get_within}
use Rattle.std.proofs.lemmas.List.{take_all, map-append}
use Rattle.y_tree.specs.Meaning.{is_odd}
use Rattle.clause_logic.specs.declared.Lit.{Lit}
use Rattle.clause_logic.specs.Clauses.{Listed, Models}
use Rattle.node_encoding.specs.declared.Node.{Node}
use Rattle.node_encoding.specs.declared.Node.TheVariants as node_of
use Rattle.node_encoding.specs.declared.encoding.Origin.{Origin}
use Rattle.node_encoding.specs.declared.encoding.Origin.TheVariants as origin
use Rattle.node_encoding.specs.Nodes.{IsFormed, arguments_of, number_of}
use Rattle.node_encoding.specs.Shapes.{Obeys, true_at}
use Rattle.node_encoding.specs.Gates.{truth, even_clauses, Has, IsChain, IsParity, Differ, IsGate}
use Rattle.node_encoding.specs.Encoding.{Encoded, Encodes, IsOrigin, Agrees, origin_value, arguments_at, lit_at, with_lit, IsNext}
use Rattle.node_encoding.proofs.Gets.{push_cases, push_here, push_old, length_pushed, all_get}
use Rattle.node_encoding.proofs.Combining.{take_next}
use Rattle.node_encoding.proofs.Listing.{has_front, has_back, models_append}
use Rattle.node_encoding.proofs.Gating.{parity_sound}
use Rattle.node_encoding.proofs.Steps.{some_at, same_encoded, parity_more, lits_pushed, arguments_below, all_taken}

-- a variable of the parity of the first arguments, or of all
abbrev pub IsPart : ℕ → List ℕ → Encoded → Encoded → ℕ → Lit → ℕ → Origin → Type 0
IsPart k args e cur i last v (origin.Node j) = (j ≡ k) × (last ≡ true_at v) × (i ≡ length args)
IsPart k args e cur i last v (origin.Prefix j count) = (j ≡ k) × (0 < count) × (count ≤ length args) × IsParity cur.clauses (true_at v) (map (lit_at e.lits) (take count args))

-- the parity of the first arguments has a literal
pub record IsGrowing (nodes : List Node) (k : ℕ) (args : List ℕ) (e cur : Encoded) (i : ℕ) (last : Lit) : Type 0 where
  pub lits : cur.lits ≡ e.lits
  pub older : (v : ℕ) (o : Origin) → slice_get e.origins v ≡ Some o → slice_get cur.origins v ≡ Some o
  pub kept : Has cur.clauses e.clauses
  pub some : 0 < i
  pub most : i ≤ length args
  pub known : last.var < length cur.origins
  pub chain : IsParity cur.clauses last (map (lit_at e.lits) (take i args))
  pub origins : (v : ℕ) (o : Origin) → slice_get cur.origins v ≡ Some o → (slice_get e.origins v ≡ Some o) ⊎ IsPart k args e cur i last v o
  pub means : (t a : ℕ → Bool) → Obeys nodes t → Agrees nodes cur.origins t a → truth a last ≡ is_odd (map t (take i args))
  pub sound : (t a : ℕ → Bool) → Obeys nodes t → Agrees nodes cur.origins t a → Models a (Listed e.clauses) → Models a (Listed cur.clauses)
  pub few : length cur.origins + 1 ≤ length e.origins + i

chain_push : (clauses : List (List Lit)) (p : Lit) (ls : List Lit) (q l r : Lit) → IsChain clauses p ls q → Has clauses (even_clauses (r ∷ q ∷ l ∷ [])) → IsChain clauses p (ls ++ l ∷ []) r
chain_push clauses p [] q l r e has = (r, subst (λ x. Has clauses (even_clauses (r ∷ x ∷ l ∷ []))) (sym e) has, refl)
chain_push clauses p (m ∷ ls) q l r (s, first, rest) has = (s, first, chain_push clauses s ls q l r rest has)

parity_push : (clauses : List (List Lit)) (ls : List Lit) (q l r : Lit) → IsParity clauses q ls → Has clauses (even_clauses (r ∷ q ∷ l ∷ [])) → IsParity clauses r (ls ++ l ∷ [])
parity_push clauses [] q l r e has = absurd e
parity_push clauses (p ∷ ls) q l r e has = chain_push clauses p ls q l r e has

odd_push : (bs : List Bool) (b : Bool) → is_odd (bs ++ b ∷ []) ≡ is_odd (is_odd bs ∷ b ∷ [])
odd_push [] true = refl
odd_push [] false = refl
odd_push (true ∷ bs) b = ap not (odd_push bs b) ∙ turned (is_odd bs) b
  where
    turned : (p b : Bool) → not (is_odd (p ∷ b ∷ [])) ≡ is_odd (not p ∷ b ∷ [])
    turned true true = refl
    turned true false = refl
    turned false true = refl
    turned false false = refl
odd_push (false ∷ bs) b = odd_push bs b

-- what the next variable stands for
abbrev pub next_origin : ℕ → List ℕ → ℕ → Origin → Type 0
next_origin k args i o = ((i + 1 ≡ length args) × (o ≡ origin.Node k)) ⊎ ((i + 1 ≡ length args → ⊥) × (o ≡ origin.Prefix k (i + 1)))

module _ (nodes : List Node) (formed : IsFormed nodes) (k : ℕ) (args : List ℕ) (e : Encoded) (encodes : Encodes nodes e) (at : k ≡ length e.lits) (here : slice_get nodes k ≡ Some (node_of.Xor args)) where
  below : All (λ j. j < k) args
  below = arguments_below nodes formed k (node_of.Xor args) here

  const_other : (number : ℕ) → slice_get nodes k ≡ Some (node_of.Const number) → ⊥
  const_other number h = absurd (cc (sym (ap number_of (sym here ∙ h))))

  -- the first argument alone
  pub growing_one : (x : ℕ) → slice_get args 0 ≡ Some x → IsGrowing nodes k args e e 1 (lit_at e.lits x)
  growing_one x h =
      let small : x < k = all_get (λ j. j < k) args 0 x below h in
      let one = some_at e.lits x (omega (arith, small, at)) in
      let is : lit_at e.lits x ≡ one.0 = ap (λ o. unwrap_or o (true_at x)) one.1 in
      record {
        lits = refl;
        older = λ v o g. g;
        kept = λ c g. g;
        some = omega arith;
        most = slice_get_within args 0 x h;
        known = subst (λ l. l.var < length e.origins) (sym is) (encodes.known x one.0 one.1);
        chain = first args x h;
        origins = λ v o g. inl g;
        means = λ t a obeys agrees. ap (truth a) is ∙ encodes.means t a obeys agrees x one.0 one.1 ∙ only t args x h;
        sound = λ t a obeys agrees m. m;
        few = omega arith;
      }
    where
      first : (ks : List ℕ) (x : ℕ) → slice_get ks 0 ≡ Some x → IsParity e.clauses (lit_at e.lits x) (map (lit_at e.lits) (take 1 ks))
      first [] x h = absurd (cc h)
      first (y ∷ ks) x h = ap (lit_at e.lits) (same_Some y x h)

      only : (t : ℕ → Bool) (ks : List ℕ) (x : ℕ) → slice_get ks 0 ≡ Some x → t x ≡ is_odd (map t (take 1 ks))
      only t [] x h = absurd (cc h)
      only t (y ∷ ks) x h = alone (t x) ∙ ap (λ z. is_odd (t z ∷ [])) (sym (same_Some y x h))
        where
          alone : (b : Bool) → b ≡ is_odd (b ∷ [])
          alone true = refl
          alone false = refl

  module _ (cur : Encoded) (i : ℕ) (last : Lit) (grows : IsGrowing nodes k args e cur i last) (x : ℕ) (next : slice_get args i ≡ Some x) (o : Origin) (is_next : next_origin k args i o) where
    abbrev r : Lit
    r = true_at (length cur.origins)

    abbrev a_lit : Lit
    a_lit = lit_at e.lits x

    abbrev extra : List (List Lit)
    extra = even_clauses (r ∷ last ∷ a_lit ∷ [])

    abbrev later : Encoded
    later = record { origins = cur.origins ++ o ∷ []; lits = cur.lits; clauses = cur.clauses ++ extra }

    one_more : take (i + 1) args ≡ take i args ++ x ∷ []
    one_more = take_next args i x next

    lits_more : map (lit_at e.lits) (take (i + 1) args) ≡ map (lit_at e.lits) (take i args) ++ a_lit ∷ []
    lits_more = ap (map (lit_at e.lits)) one_more ∙ map-append (lit_at e.lits) (take i args) (x ∷ [])

    chain_later : IsParity later.clauses r (map (lit_at e.lits) (take (i + 1) args))
    chain_later =
        subst (IsParity later.clauses r) (sym lits_more)
        (parity_push later.clauses (map (lit_at e.lits) (take i args)) last a_lit r (parity_more cur.clauses later.clauses (has_front cur.clauses extra) last (map (lit_at e.lits) (take i args)) grows.chain) (has_back cur.clauses extra))

    agrees_before : (t a : ℕ → Bool) → Agrees nodes later.origins t a → Agrees nodes cur.origins t a
    agrees_before t a agrees v p h = agrees v p (push_old cur.origins o p v h)

    -- the new variable has the parity of one argument more
    means_later : (t a : ℕ → Bool) → Obeys nodes t → Agrees nodes later.origins t a → a (length cur.origins) ≡ is_odd (map t (take (i + 1) args))
    means_later t a obeys agrees =
        agrees (length cur.origins) o (push_here cur.origins o)
        ∙ ⊎_elim
        (λ q. ap (origin_value nodes t) q.1 ∙ obeys.shaped k (node_of.Xor args) here ∙ ap (λ ks. is_odd (map t ks)) (sym (take_all (i + 1) args (omega (arith, q.0)))))
        (λ q. ap (origin_value nodes t) q.1 ∙ ap (λ w. is_odd (map t (take (i + 1) (arguments_at w)))) here)
        is_next

    argument_means : (t a : ℕ → Bool) → Obeys nodes t → Agrees nodes cur.origins t a → truth a a_lit ≡ t x
    argument_means t a obeys agrees =
        let one = some_at e.lits x (omega (arith, all_get (λ j. j < k) args i x below next, at)) in
        ap (λ w. truth a (unwrap_or w (true_at x))) one.1 ∙ encodes.means t a obeys (λ v p h. agrees v p (grows.older v p h)) x one.0 one.1

    extra_sound : (t a : ℕ → Bool) → Obeys nodes t → Agrees nodes later.origins t a → Models a (Listed extra)
    extra_sound t a obeys agrees =
        parity_sound a r (last ∷ a_lit ∷ [])
        (means_later t a obeys agrees
        ∙ ap (λ ks. is_odd (map t ks)) one_more ∙ ap is_odd (map-append t (take i args) (x ∷ [])) ∙ odd_push (map t (take i args)) (t x)
        ∙ ap (λ b. is_odd (b ∷ t x ∷ [])) (sym (grows.means t a obeys (agrees_before t a agrees)))
        ∙ ap (λ b. is_odd (truth a last ∷ b ∷ [])) (sym (argument_means t a obeys (agrees_before t a agrees))))

    part_stays : (v : ℕ) (p : Origin) → IsPart k args e cur i last v p → IsPart k args e later (i + 1) r v p
    part_stays v (origin.Node j) (same, is, all) = absurd (omega (arith, all, slice_get_within args i x next))
    part_stays v (origin.Prefix j count) (same, some, most, parity) = (same, some, most, parity_more cur.clauses later.clauses (has_front cur.clauses extra) (true_at v) (map (lit_at e.lits) (take count args)) parity)

    part_new : IsPart k args e later (i + 1) r (length cur.origins) o
    part_new = ⊎_elim
        (λ q. subst (IsPart k args e later (i + 1) r (length cur.origins)) (sym q.1) (refl, refl, q.0))
        (λ q. subst (IsPart k args e later (i + 1) r (length cur.origins)) (sym q.1) (refl, omega arith, slice_get_within_more, chain_later))
        is_next
      where
        slice_get_within_more : i + 1 ≤ length args
        slice_get_within_more = omega (arith, slice_get_within args i x next)

    pub growing_more : IsGrowing nodes k args e later (i + 1) r
    growing_more = record {
      lits = grows.lits;
      older = λ v p h. push_old cur.origins o p v (grows.older v p h);
      kept = λ c h. has_front cur.clauses extra c (grows.kept c h);
      some = omega arith;
      most = omega (arith, slice_get_within args i x next);
      known = omega (arith, length_pushed cur.origins o);
      chain = chain_later;
      origins = λ v p h. ⊎_elim
          (λ q. inr (subst (λ w. IsPart k args e later (i + 1) r w p) (sym q.0) (subst (IsPart k args e later (i + 1) r (length cur.origins)) q.1 part_new)))
          (λ old. ⊎_elim inl (λ part. inr (part_stays v p part)) (grows.origins v p old))
          (push_cases cur.origins o p v h);
      means = means_later;
      sound = λ t a obeys agrees m. models_append a cur.clauses extra (grows.sound t a obeys (agrees_before t a agrees) m) (extra_sound t a obeys agrees);
      few = omega (arith, grows.few, length_pushed cur.origins o);
    }

  -- the literal of an argument has a variable
  pub argument_known : (cur : Encoded) (i : ℕ) (last : Lit) → IsGrowing nodes k args e cur i last → (j x : ℕ) → slice_get args j ≡ Some x → (lit_at e.lits x).var < length cur.origins
  argument_known cur i last grows j x h =
      let one = some_at e.lits x (omega (arith, all_get (λ b. b < k) args j x below h, at)) in
      let small = encodes.known x one.0 one.1 in
      let old = some_at e.origins one.0.var small in
      subst (λ l. l.var < length cur.origins) (sym (ap (λ o. unwrap_or o (true_at x)) one.1)) (slice_get_within cur.origins one.0.var old.0 (grows.older one.0.var old.0 old.1))

  -- the next argument, as the code takes it
  pub growing_step : (cur new : Encoded) (i : ℕ) (last following arg : Lit) (x : ℕ) (o : Origin) → IsGrowing nodes k args e cur i last → slice_get args i ≡ Some x → next_origin k args i o
      → following ≡ true_at (length cur.origins) → arg ≡ lit_at e.lits x → new.origins ≡ cur.origins ++ o ∷ [] → new.lits ≡ cur.lits → new.clauses ≡ cur.clauses ++ even_clauses (following ∷ last ∷ arg ∷ []) → IsGrowing nodes k args e new (i + 1) following
  growing_step cur new i last following arg x o grows h is_next fresh is origins_are lits_are clauses_are =
      let same : new ≡ later cur i last grows x h o is_next =
      same_encoded new (later cur i last grows x h o is_next) origins_are lits_are
      (clauses_are ∙ ap (λ l. cur.clauses ++ even_clauses (l ∷ last ∷ arg ∷ [])) fresh ∙ ap (λ l. cur.clauses ++ even_clauses (true_at (length cur.origins) ∷ last ∷ l ∷ [])) is) in
      subst (λ w. IsGrowing nodes k args e w (i + 1) following) (sym same)
      (subst (λ l. IsGrowing nodes k args e (later cur i last grows x h o is_next) (i + 1) l) (sym fresh) (growing_more cur i last grows x h o is_next))

  differ_take : (count : ℕ) → Differ args → Differ (take count args)
  differ_take count differ i j l g h = differ i j l (front count args i l g) (front count args j l h)
    where
      front : (n : ℕ) (ks : List ℕ) (i : ℕ) (l : Lit) → slice_get (map true_at (take n ks)) i ≡ Some l → slice_get (map true_at ks) i ≡ Some l
      front zero ks i l h = absurd (cc h)
      front (suc n) [] i l h = absurd (cc h)
      front (suc n) (y ∷ ks) zero l h = h
      front (suc n) (y ∷ ks) (suc i) l h = front n ks i l h

  -- at the end it is the node's
  pub growing_all : (cur : Encoded) (last : Lit) (i : ℕ) → length args ≤ i → Differ args → IsGrowing nodes k args e cur i last → IsNext nodes k e cur last
  growing_all cur last i far differ grows =
      let all_of : take i args ≡ args = take_all i args far in
      let parity : IsParity cur.clauses last (map (lit_at e.lits) args) = subst (λ ks. IsParity cur.clauses last (map (lit_at e.lits) ks)) all_of grows.chain in
      record {
        lits = grows.lits;
        older = grows.older;
        kept = grows.kept;
        known = grows.known;
        gate = λ m h. subst (λ n. IsGate cur.clauses n last (map (lit_at e.lits) (arguments_of n))) (same_Some (node_of.Xor args) m (sym here ∙ h)) (inl (differ, parity));
        constants = λ j number l f h there. absurd (const_other number h);
        origins = λ v o h. ⊎_elim inl (λ part. inr (stands v o part)) (grows.origins v o h);
        means = λ t a obeys agrees. grows.means t a obeys agrees ∙ ap (λ ks. is_odd (map t ks)) all_of ∙ sym (obeys.shaped k (node_of.Xor args) here);
        sound = grows.sound;
        few = λ m h. omega (arith, grows.few, grows.most, ap (λ n. length (arguments_of n)) (same_Some (node_of.Xor args) m (sym here ∙ h)));
      }
    where
      moved : (ks : List ℕ) → All (λ j. j < k) ks → map (lit_at e.lits) ks ≡ map (lit_at (cur.lits ++ last ∷ [])) ks
      moved ks small = lits_pushed e.lits last ks (subst (λ m. All (λ j. j < m) ks) at small) ∙ ap (λ w. map (lit_at (w ++ last ∷ [])) ks) (sym grows.lits)

      stands : (v : ℕ) (o : Origin) → IsPart k args e cur i last v o → IsOrigin nodes (with_lit cur last) v o
      stands v (origin.Node j) (same, is, all) =
          ap (slice_get (cur.lits ++ last ∷ [])) (same ∙ at ∙ sym (ap length grows.lits)) ∙ push_here cur.lits last ∙ ap Some is
      stands v (origin.Prefix j count) (same, some, most, parity) = (
        args,
        ap (slice_get nodes) same ∙ here,
        some,
        most,
        inl (differ_take count differ, subst (IsParity cur.clauses (true_at v)) (moved (take count args) (all_taken k count args below)) parity),
        omega (arith, same, at, ap length grows.lits, length_pushed cur.lits last),
      )
