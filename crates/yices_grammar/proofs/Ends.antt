-- A command ends with a closing bracket.
use Rattle.std.proofs.Common.{◌≡◌, ◌∙◌, Bool, true, false, Some, None, List, [], ◌∷◌, ◌++◌, refl, sym, ap, subst, inl, inr, append_assoc, append-nil}
use Rattle.std.specs.List.{list_all}
use Rattle.std.proofs.lemmas.Bool.{and_parts, true≢false}
use Rattle.yices_grammar.specs.Tokens.{Token}
use Rattle.yices_grammar.specs.Commands.{Command}
use Rattle.yices_grammar.specs.Parts.{closing, is_of, command, command_form, Item, sign, one, part, optional, many, some, Maker, Rule}
use Rattle.yices_grammar.specs.Grammar.{rules}
use Rattle.yices_grammar.specs.Reading.{ByOne, Enters, Gives, SpellsCommand, SpellsCommands}
use Rattle.yices_grammar.specs.Laws.{closed_at, EndsClosed}
use Rattle.yices_grammar.proofs.Apart.{closing_token}

-- the item ends a command
is_last : Item → Bool
is_last (sign closing) = true
is_last (part command) = true
is_last (part command_form) = true
is_last _ = false

-- the last of the items does
closes : List Item → Bool
closes [] = false
closes (i ∷ []) = is_last i
closes (i ∷ j ∷ items) = closes (j ∷ items)

closes_append : (a : List Item) (i : Item) (b : List Item) → closes (i ∷ b) ≡ true → closes (a ++ i ∷ b) ≡ true
unfolding closes
closes_append [] i b h = h
closes_append (j ∷ []) i b h = h
closes_append (j ∷ k ∷ a) i b h = closes_append (k ∷ a) i b h

each_closes : {Q : Type 0} → List (Rule Q) → Bool
each_closes rs = list_all (λ r. closes r.items) rs

-- the rules of a command, and of its form, end one
command_closes : each_closes (rules command) ≡ true
unfolding each_closes closes is_last
command_closes = refl

form_closes : each_closes (rules command_form) ≡ true
unfolding each_closes closes is_last
form_closes = refl

ends_more : (t : Token) (ts : List Token) → EndsClosed ts → EndsClosed (t ∷ ts)
ends_more t ts (front, at, is) = (t ∷ front, at, ap (λ x. t ∷ x) is)

token_closed : (t : Token) → is_of closing t.lexeme ≡ true → t ≡ closed_at t.place
token_closed t h = ap (λ l. record { place = t.place; lexeme = l }) (closing_token t.lexeme h)

module _ (R : Type 0) where
  -- a rule whose items end a command by themselves, or what stands behind them does
  by_rules : {Q : Type 0} (t : Token) (ts : List Token) (rest : List Item) (make : Q → Maker rest R) (value : R) (rs : List (Rule Q)) → list_all (λ r. closes (r.items ++ rest)) rs ≡ true
      → ((items : List Item) (m : Maker items R) → closes items ≡ true → Gives R items m ts value → EndsClosed ts) → ByOne (Enters R t rest make (λ is m. Gives R is m ts value)) rs → EndsClosed (t ∷ ts)
  by_rules t ts rest make value [] g goes h = absurd h
  by_rules t ts rest make value (r ∷ rs) g goes (inl (is, reads)) = ends_more t ts (goes _ _ (and_parts (closes (r.items ++ rest)) _ g).0 reads)
  by_rules t ts rest make value (r ∷ rs) g goes (inr h) = by_rules t ts rest make value rs (and_parts (closes (r.items ++ rest)) _ g).1 goes h

  behind : {Q : Type 0} (rs : List (Rule Q)) (i : Item) (items : List Item) → closes (i ∷ items) ≡ true → list_all (λ r. closes (r.items ++ i ∷ items)) rs ≡ true
  behind [] i items h = refl
  behind (r ∷ rs) i items h = rw (closes_append r.items i items h, behind rs i items h) refl

  alone : {Q : Type 0} (rs : List (Rule Q)) → each_closes rs ≡ true → list_all (λ r. closes (r.items ++ [])) rs ≡ true
  unfolding each_closes
  alone [] h = refl
  alone (r ∷ rs) h = let parts = and_parts (closes r.items) _ h in rw (append-nil r.items, parts.0, alone rs parts.1) refl

  gives_closed : (ts : List Token) (items : List Item) (make : Maker items R) (value : R) → closes items ≡ true → Gives R items make ts value → EndsClosed ts
  unfolding Gives closes is_last
  gives_closed ts [] make value c h = absurd (true≢false (sym c))
  gives_closed [] (sign k ∷ items) make value c h = absurd h
  gives_closed [] (one k ∷ items) make value c h = absurd h
  gives_closed [] (part p ∷ items) make value c h = absurd h
  gives_closed [] (some p ∷ items) make value c h = absurd h
  gives_closed [] (optional p ∷ []) make value c h = absurd (true≢false (sym c))
  gives_closed [] (optional p ∷ i ∷ items) make value c h = gives_closed [] (i ∷ items) (make None) value c h
  gives_closed [] (many p ∷ []) make value c h = absurd (true≢false (sym c))
  gives_closed [] (many p ∷ i ∷ items) make value c h = gives_closed [] (i ∷ items) (make []) value c h
  gives_closed (t ∷ []) (sign closing ∷ []) make value c h = ([], t.place, ap (λ x. x ∷ []) (token_closed t h.0))
  gives_closed (t ∷ u ∷ ts) (sign closing ∷ []) make value c h = absurd h.1
  gives_closed (t ∷ ts) (sign k ∷ []) make value c h = absurd (true≢false (sym c))
  gives_closed (t ∷ ts) (sign k ∷ i ∷ items) make value c h = ends_more t ts (gives_closed ts (i ∷ items) make value c h.1)
  gives_closed (t ∷ ts) (one k ∷ []) make value c h = absurd (true≢false (sym c))
  gives_closed (t ∷ ts) (one k ∷ i ∷ items) make value c h = ends_more t ts (gives_closed ts (i ∷ items) (make t) value c h.1)
  gives_closed (t ∷ ts) (part command ∷ []) make value c h = by_rules t ts [] make value (rules command) (alone (rules command) command_closes) (λ is m a b. gives_closed ts is m value a b) h
  gives_closed (t ∷ ts) (part command_form ∷ []) make value c h = by_rules t ts [] make value (rules command_form) (alone (rules command_form) form_closes) (λ is m a b. gives_closed ts is m value a b) h
  gives_closed (t ∷ ts) (part p ∷ []) make value c h = absurd (true≢false (sym c))
  gives_closed (t ∷ ts) (part p ∷ i ∷ items) make value c h = by_rules t ts (i ∷ items) make value (rules p) (behind (rules p) i items c) (λ is m a b. gives_closed ts is m value a b) h
  gives_closed (t ∷ ts) (optional p ∷ []) make value c h = absurd (true≢false (sym c))
  gives_closed (t ∷ ts) (optional p ∷ i ∷ items) make value c (inl h) = gives_closed (t ∷ ts) (i ∷ items) (make None) value c h
  gives_closed (t ∷ ts) (optional p ∷ i ∷ items) make value c (inr h) = by_rules t ts (i ∷ items) (λ x. make (Some x)) value (rules p) (behind (rules p) i items c) (λ is m a b. gives_closed ts is m value a b) h
  gives_closed (t ∷ ts) (many p ∷ []) make value c h = absurd (true≢false (sym c))
  gives_closed (t ∷ ts) (many p ∷ i ∷ items) make value c (inl h) = gives_closed (t ∷ ts) (i ∷ items) (make []) value c h
  gives_closed (t ∷ ts) (many p ∷ i ∷ items) make value c (inr h) = by_rules t ts (many p ∷ i ∷ items) (λ x xs. make (x ∷ xs)) value (rules p) (behind (rules p) (many p) (i ∷ items) c) (λ is m a b. gives_closed ts is m value a b) h
  gives_closed (t ∷ ts) (some p ∷ []) make value c h = absurd (true≢false (sym c))
  gives_closed (t ∷ ts) (some p ∷ i ∷ items) make value c h = by_rules t ts (many p ∷ i ∷ items) (λ x xs. make (x ∷ xs)) value (rules p) (behind (rules p) (many p) (i ∷ items) c) (λ is m a b. gives_closed ts is m value a b) h

pub command_ends : (c : Command) (ts : List Token) → SpellsCommand c ts → EndsClosed ts
unfolding closes is_last
command_ends c ts h = gives_closed Command ts (part command ∷ []) (λ x. x) c refl h

-- the last of some commands does
pub commands_end : (c : Command) (cs : List Command) (ts : List Token) → SpellsCommands (c ∷ cs) ts → EndsClosed ts
commands_end c [] ts (first, rest, spells, none, is) = subst EndsClosed (sym (is ∙ ap (λ r. first ++ r) none ∙ append-nil first)) (command_ends c first spells)
commands_end c (d ∷ cs) ts (first, rest, spells, all, is) =
    let on = commands_end d cs rest all in (first ++ on.0, on.1, is ∙ ap (λ r. first ++ r) on.2 ∙ sym (append_assoc first on.0 (closed_at on.1 ∷ [])))
