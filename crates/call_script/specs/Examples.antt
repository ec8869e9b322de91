-- What some lines say, computed.
use Rattle.std.specs.Prelude.{◌≡◌, ℕ, true, Some, None, List, [], ◌∷◌, ◌++◌, codes, refl}
use Rattle.call_script.specs.declared.words.CallWord.TheVariants as call
use Rattle.call_script.specs.declared.lines.LineEnd.TheVariants.{Newline, TextEnd, Open}
use Rattle.call_script.specs.Lines.{reference, entry, flag, limit, quoted, bad_byte, unexpected, end_of_input, Reading, nothing, called, unfinished, fault, not_built}
use Rattle.call_script.specs.Judging.{piece_at, cut_in, call_named, numeral, reference_of, flag_of, counted, limit_of, at_tail, said, judged}

-- the line says that, where byte 10 ends it
abbrev pub Line : List ℕ → Reading → Type 0
Line line r = judged Newline line ≡ r

-- a quote
abbrev pub quote : List ℕ
quote = 34 ∷ []

-- calls with their arguments
pub calls :
    Line (codes "bool_type") (called 1 call.BoolType [])
    × Line (codes "not #12") (called 1 call.Not (reference 12 ∷ []))
    × Line (codes "  eq #1   #2.3 ;") (called 3 call.Eq (reference 1 ∷ entry 2 3 ∷ []))
    × Line (codes "and") (called 1 call.And [])
    × Line (codes "or #1 #2 #3") (called 1 call.Or (reference 1 ∷ reference 2 ∷ reference 3 ∷ []))
    × Line (codes "garbage_collect true #1") (called 1 call.GarbageCollect (flag true ∷ reference 1 ∷ []))
    × Line (codes "get_term_by_name " ++ quote ++ codes "a ;(b" ++ quote) (called 1 call.GetTermByName (quoted (codes "a ;(b") ∷ []))
    × Line (codes "check_context #1 whole") (called 1 call.CheckContext (reference 1 ∷ limit None ∷ []))
    × Line (codes "check_context_with_assumptions #1 18446744073709551615 #2 #2") (called 1 call.CheckContextWithAssumptions (reference 1 ∷ limit (Some 18446744073709551615) ∷ reference 2 ∷ reference 2 ∷ []))
    × Line (codes "get_unsat_core #1") (called 1 call.GetUnsatCore (reference 1 ∷ []))
    × Line (codes "not #0099") (called 1 call.Not (reference 99 ∷ []))
    × Line (codes "not #99999999999999999999") (called 1 call.Not (reference 18446744073709551615 ∷ []))
unfolding piece_at cut_in call_named numeral reference_of flag_of counted limit_of at_tail said
calls = (refl, refl, refl, refl, refl, refl, refl, refl, refl, refl, refl, refl)

-- lines that say nothing: a comment's bytes are free
pub empty : Line [] nothing × Line (32 ∷ 9 ∷ []) nothing × Line (59 ∷ 128 ∷ 34 ∷ []) nothing
unfolding piece_at cut_in call_named numeral reference_of flag_of counted limit_of at_tail said
empty = (refl, refl, refl)

-- words that are no calls, and calls that aren't built
pub words :
    Line (codes "nosuch #1") (fault unexpected 1)
    × Line (codes " bv_type (") (not_built 2)
    × Line (codes "(not #1)") (fault unexpected 1)
    × Line (quote ++ codes "a" ++ quote) (fault unexpected 1)
    × Line (codes "#1") (fault unexpected 1)
unfolding piece_at cut_in call_named numeral reference_of flag_of counted limit_of at_tail said
words = (refl, refl, refl, refl, refl)

-- arguments of another form, and one too many
pub arguments :
    Line (codes "not true") (fault unexpected 5)
    × Line (codes "not #1x") (fault unexpected 5)
    × Line (codes "not #1.") (fault unexpected 5)
    × Line (codes "not #1 #2") (fault unexpected 8)
    × Line (codes "garbage_collect #1") (fault unexpected 17)
    × Line (codes "check_context #1 18446744073709551616") (fault unexpected 18)
    × Line (codes "check_context whole whole") (fault unexpected 15)
    × Line (codes "check_context #1 #2") (fault unexpected 18)
    × Line (codes "set_term_name a #1") (fault unexpected 15)
    × Line (codes "get_term_by_name " ++ quote ++ quote) (fault unexpected 18)
    × Line (codes "not " ++ quote ++ codes "a") (fault unexpected 5)
unfolding piece_at cut_in call_named numeral reference_of flag_of counted limit_of at_tail said
arguments = (refl, refl, refl, refl, refl, refl, refl, refl, refl, refl, refl)

-- missing separators, and brackets
pub separators :
    Line (codes "get_term_by_name" ++ quote ++ codes "a" ++ quote) (fault unexpected 17)
    × Line (codes "set_term_name " ++ quote ++ codes "a" ++ quote ++ codes "#1") (fault unexpected 18)
    × Line (codes "not #1)") (fault unexpected 7)
unfolding piece_at cut_in call_named numeral reference_of flag_of counted limit_of at_tail said
separators = (refl, refl, refl)

-- bytes that nothing can hold; a word in front is judged first
pub bad_bytes :
    Line (codes "bool_type" ++ 13 ∷ []) (fault bad_byte 10)
    × Line (codes "nosuch" ++ 128 ∷ []) (fault unexpected 1)
    × Line (codes "bv_type" ++ 128 ∷ []) (not_built 1)
    × Line (codes "get_term_by_name " ++ quote ++ codes "a\\" ++ quote) (fault bad_byte 20)
    × Line (codes "not " ++ quote ++ 128 ∷ []) (fault unexpected 5)
unfolding piece_at cut_in call_named numeral reference_of flag_of counted limit_of at_tail said
bad_bytes = (refl, refl, refl, refl, refl)

-- lines that end too early, and lines that may go on
pub ends :
    Line (codes "not") (fault unexpected 4)
    × Line (codes "not ; #1") (fault unexpected 9)
    × (judged TextEnd (codes "not ") ≡ fault end_of_input 5)
    × (judged TextEnd (codes "get_term_by_name " ++ quote ++ codes "a") ≡ fault end_of_input 20)
    × (judged TextEnd (codes "not #1") ≡ called 1 call.Not (reference 1 ∷ []))
    × (judged Open (codes "not #1") ≡ unfinished)
    × (judged Open (codes "nosuch") ≡ unfinished)
    × (judged Open (codes "nosuch ") ≡ fault unexpected 1)
    × (judged Open (codes "get_term_by_name " ++ quote ++ codes "a") ≡ unfinished)
    × (judged Open [] ≡ unfinished)
unfolding piece_at cut_in call_named numeral reference_of flag_of counted limit_of at_tail said
ends = (refl, refl, refl, refl, refl, refl, refl, refl, refl, refl)
