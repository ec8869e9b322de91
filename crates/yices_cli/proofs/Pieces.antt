-- Reading a text piece by piece.
use Rattle.std.proofs.Common.{ℕ, zero, suc, Bool, false, ◌≡◌, ◌<◌, ◌≤◌, ◌+◌, ◌-◌, ◌∙◌, List, [], ◌∷◌, ◌++◌, Option, Some, None, length, take, drop, refl, sym, ap, subst, arith, append_assoc, length-append}
use Rattle.std.proofs.lemmas.Option.{same_Some}
use Rattle.y_io.specs.Outside.{Reads as Gets, Rose}
use Rattle.yices_cli.specs.Seen.{SourceSeen, IsFront, HoldsMore, IsGot}
use Rattle.yices_cli.specs.declared.reading.TextEnd.{TextEnd}
use Rattle.yices_cli.specs.declared.reading.TextEnd.TheVariants as text_end
use Rattle.yices_cli.specs.Parts.{is_finished, IsTextTo}

drop_front : (x y : List ℕ) → drop (length x) (x ++ y) ≡ y
drop_front [] y = refl
drop_front (b ∷ x) y = drop_front x y

two_parts : (n : ℕ) (xs : List ℕ) → xs ≡ take n xs ++ drop n xs
two_parts zero xs = refl
two_parts (suc n) [] = refl
two_parts (suc n) (x ∷ xs) = ap (λ ys. x ∷ ys) (two_parts n xs)

some_length : (xs : List ℕ) → 0 < length xs → (b : ℕ) × (rest : List ℕ) × (xs ≡ b ∷ rest)
some_length [] h = absurd (omega (arith, h))
some_length (x ∷ xs) h = (x, xs, refl)

take_fewer : (k n : ℕ) (xs : List ℕ) → k ≤ n → take k (take n xs) ≡ take k xs
take_fewer zero n xs h = refl
take_fewer (suc k) zero xs h = absurd (omega (arith, h))
take_fewer (suc k) (suc n) [] h = refl
take_fewer (suc k) (suc n) (x ∷ xs) h = ap (λ ys. x ∷ ys) (take_fewer k n xs (omega (arith, h)))

pub taken : (n : ℕ) (xs : List ℕ) → n ≤ length xs → length (take n xs) ≡ n
taken zero xs h = refl
taken (suc n) [] h = absurd (omega (arith, h))
taken (suc n) (x ∷ xs) h = ap suc (taken n xs (omega (arith, h)))

length_taken : (n : ℕ) (xs : List ℕ) → n ≤ length (take n xs) → n ≤ length xs
length_taken zero xs h = omega arith
length_taken (suc n) [] h = absurd (omega (arith, h))
length_taken (suc n) (x ∷ xs) h = omega (arith, length_taken n xs (omega (arith, h)))

length_dropped : (n : ℕ) (xs : List ℕ) → n < length xs → 0 < length (drop n xs)
length_dropped zero xs h = h
length_dropped (suc n) [] h = absurd (omega (arith, h))
length_dropped (suc n) (x ∷ xs) h = length_dropped n xs (omega (arith, h))

-- what was got behind the text are the first bytes of the rest
got_rest : (held : List ℕ) (place : ℕ) (old rest got : List ℕ) (n : ℕ) → held ≡ old ++ rest → place ≡ length old → got ≡ take n (drop place held) → got ≡ take n rest
got_rest held place old rest got n is behind reads =
    reads ∙ ap (λ bs. take n (drop place bs)) is ∙ ap (λ p. take n (drop p (old ++ rest))) behind ∙ ap (take n) (drop_front old rest)

-- the text, the first of the bytes behind it, and the others
split_rest : (held old rest : List ℕ) (n : ℕ) → held ≡ old ++ rest → held ≡ (old ++ take n rest) ++ drop n rest
split_rest held old rest n is = is ∙ ap (λ r. old ++ r) (two_parts n rest) ∙ sym (append_assoc old (take n rest) (drop n rest))

-- the text with what was got is still what the input begins with
pub front_more : (first now : Option (List ℕ)) (place : ℕ) (old got : List ℕ) (n : ℕ) → now ≡ first → place ≡ length old → IsFront first false old → Gets now place got n
    → IsFront first false (old ++ got)
front_more None now place old got n same behind front reads = tt
front_more (Some held) None place old got n same behind front reads = absurd (cc same)
front_more (Some held) (Some bytes) place old got n same behind front reads =
    let is : bytes ≡ old ++ front.0 = same_Some bytes held same ∙ front.1 in
    let fits : got ≡ take n front.0 = got_rest bytes place old front.0 got n is behind reads.0 in
    (drop n front.0, split_rest held old front.0 n front.1 ∙ ap (λ g. (old ++ g) ++ drop n front.0) (sym fits))

-- where more is got than there is room for the input holds more
pub front_past : (first now : Option (List ℕ)) (place : ℕ) (old bytes : List ℕ) (n room : ℕ) → now ≡ first → place ≡ length old → IsFront first false old
    → Gets now place (take n bytes) n → n ≤ length bytes → room < n → HoldsMore first (old ++ take room bytes)
front_past None now place old bytes n room same behind front reads many past = tt
front_past (Some held) None place old bytes n room same behind front reads many past = absurd (cc same)
front_past (Some held) (Some all) place old bytes n room same behind front reads many past =
    let is : all ≡ old ++ front.0 = same_Some all held same ∙ front.1 in
    let fits : take n bytes ≡ take n front.0 = got_rest all place old front.0 (take n bytes) n is behind reads.0 in
    let first_ones : take room bytes ≡ take room front.0 =
    sym (take_fewer room n bytes (omega (arith, past))) ∙ ap (take room) fits ∙ take_fewer room n front.0 (omega (arith, past)) in
    let got : n ≤ length (take n front.0) = omega (arith, ap length fits, taken n bytes many) in
    let long : n ≤ length front.0 = length_taken n front.0 got in
    let more = some_length (drop room front.0) (length_dropped room front.0 (omega (arith, past, long))) in (
      more.0,
      more.1,
      split_rest held old front.0 room front.1 ∙ ap (λ r. (old ++ take room front.0) ++ r) more.2 ∙ ap (λ g. (old ++ g) ++ more.0 ∷ more.1) (sym first_ones),
    )

-- nothing was got yet
pub front_none : (held : Option (List ℕ)) (fed : List ℕ) → fed ≡ [] → IsFront held false fed
front_none None fed is = tt
front_none (Some bytes) fed is = (bytes, ap (λ f. f ++ bytes) (sym is))

pub front_before : (held : Option (List ℕ)) (text : List ℕ) → HoldsMore held text → IsFront held false text
front_before None text more = tt
front_before (Some held) text (b, rest, is) = (b ∷ rest, is)

-- the text up to what ended it was got
pub got_to : (input : SourceSeen) (text : List ℕ) (end : TextEnd) (finished : Bool) → finished ≡ is_finished end → IsTextTo input text end → IsGot input finished text
got_to input text text_end.InputEnd finished same to = subst (λ f. IsGot input f text) (sym same) to
got_to input text text_end.ReadFault finished same to = subst (λ f. IsGot input f text) (sym same) to.0
got_to input text text_end.Limit finished same to =
    subst (λ f. IsGot input f text) (sym same) (record { front = front_before input.held text to.0; short = omega (arith, to.1) })

-- a count that rose later rose since before
pub rose_since : (before mid after : ℕ) → before ≤ mid → Rose mid after → Rose before after
rose_since before mid after h rose small = omega (arith, rose small)

-- a piece more
pub front_grown : (first now : Option (List ℕ)) (place : ℕ) (old new got : List ℕ) (n : ℕ) → now ≡ first → place ≡ length old → IsFront first false old → Gets now place got n
    → new ≡ old ++ got → IsFront first false new
front_grown first now place old new got n same behind front reads grown = rw grown (front_more first now place old got n same behind front reads)

-- the first bytes of a piece, up to the limit
pub grown_full : (first now : Option (List ℕ)) (place : ℕ) (old new bytes : List ℕ) (n limit : ℕ) → now ≡ first → place ≡ length old → place ≤ limit → IsFront first false old
    → Gets now place (take n bytes) n → n ≤ length bytes → limit - place < n → new ≡ old ++ take (limit - place) bytes → HoldsMore first new × (length new ≡ limit)
grown_full first now place old new bytes n limit same behind room front reads many past grown =
    let part = taken (limit - place) bytes (omega (arith, many, past)) in (
      rw grown (front_past first now place old bytes n (limit - place) same behind front reads many past),
      omega (arith, ap length grown, length-append old (take (limit - place) bytes), part, behind, room),
    )

-- a text with a piece more is within the limit
pub grown_short : (place : ℕ) (old new bytes : List ℕ) (n limit : ℕ) → place ≡ length old → place ≤ limit → n ≤ length bytes → n ≤ limit - place → new ≡ old ++ take n bytes
    → (length new ≡ place + n) × (length new ≤ limit)
grown_short place old new bytes n limit behind room many fits grown =
    let long : length new ≡ place + n = ap length grown ∙ omega (arith, length-append old (take n bytes), taken n bytes many, behind) in (long, omega (arith, long, fits, room))
