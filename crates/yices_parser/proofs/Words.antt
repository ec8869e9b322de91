-- Words that are expressions and types.
use Rattle.std.proofs.Common.{◌≡◌, ◌∙◌, ℕ, Bool, true, false, Option, Some, None, Ok, List, refl, sym, ap}
use Rattle.std.specs.Prelude.{codes, if◌then◌else◌}
use Rattle.std.specs.Str.{bytes_eq}
use Rattle.yices_grammar.specs.Words.{is_name, is_number, is_binary, is_hex, is_type_name}
use Rattle.yices_grammar.specs.Commands.{true_word, false_word, name, number, binary, hex, named, bool, real}
use Rattle.yices_commands.specs.declared.command.ExprForm.TheVariants as form
use Rattle.yices_commands.specs.declared.command.TypeForm.TheVariants as type_form
use Rattle.yices_commands.specs.Plain.{plain_type_form}
use Rattle.yices_parser.specs.Steps.{word_form, word_type, IsWordForm, IsWordType}
use Rattle.yices_commands.proofs.Plain.{form-True, form-False, form-Name, form-Number, form-Binary, form-Hex, type-Named, type-Bool, type-Real}

module _ {X : Type 0} (a b c d e f : Bool) (t u v w x y : X) where
  chain : Option X
  chain = if a then Some t else if b then Some u else if c then Some v else if d then Some w else if e then Some x else if f then Some y else None

  chain_1 : a ≡ true → chain ≡ Some t
  unfolding chain
  chain_1 h = rw h refl

  chain_2 : a ≡ false → b ≡ true → chain ≡ Some u
  unfolding chain
  chain_2 h i = rw (h, i) refl

  chain_3 : a ≡ false → b ≡ false → c ≡ true → chain ≡ Some v
  unfolding chain
  chain_3 h i j = rw (h, i, j) refl

  chain_4 : a ≡ false → b ≡ false → c ≡ false → d ≡ true → chain ≡ Some w
  unfolding chain
  chain_4 h i j k = rw (h, i, j, k) refl

  chain_5 : a ≡ false → b ≡ false → c ≡ false → d ≡ false → e ≡ true → chain ≡ Some x
  unfolding chain
  chain_5 h i j k l = rw (h, i, j, k, l) refl

  chain_6 : a ≡ false → b ≡ false → c ≡ false → d ≡ false → e ≡ false → f ≡ true → chain ≡ Some y
  unfolding chain
  chain_6 h i j k l m = rw (h, i, j, k, l, m) refl

  chain_none : a ≡ false → b ≡ false → c ≡ false → d ≡ false → e ≡ false → f ≡ false → chain ≡ None
  unfolding chain
  chain_none h i j k l m = rw (h, i, j, k, l, m) refl

module _ (z : List ℕ) where
  pub word_true : bytes_eq z (codes "true") ≡ true → IsWordForm z (Ok (Some form.True))
  unfolding word_form chain
  word_true h = chain_1 (bytes_eq z (codes "true")) (bytes_eq z (codes "false")) (is_name z) (is_number z) (is_binary z) (is_hex z) true_word false_word (name z) (number z) (binary z) (hex z) h ∙ ap Some (sym form-True)

  pub word_false : bytes_eq z (codes "true") ≡ false → bytes_eq z (codes "false") ≡ true → IsWordForm z (Ok (Some form.False))
  unfolding word_form chain
  word_false h i = chain_2 (bytes_eq z (codes "true")) (bytes_eq z (codes "false")) (is_name z) (is_number z) (is_binary z) (is_hex z) true_word false_word (name z) (number z) (binary z) (hex z) h i ∙ ap Some (sym form-False)

  pub word_name : bytes_eq z (codes "true") ≡ false → bytes_eq z (codes "false") ≡ false → is_name z ≡ true → IsWordForm z (Ok (Some (form.Name z)))
  unfolding word_form chain
  word_name h i j = chain_3 (bytes_eq z (codes "true")) (bytes_eq z (codes "false")) (is_name z) (is_number z) (is_binary z) (is_hex z) true_word false_word (name z) (number z) (binary z) (hex z) h i j ∙ ap Some (sym (form-Name z))

  pub word_number : bytes_eq z (codes "true") ≡ false → bytes_eq z (codes "false") ≡ false → is_name z ≡ false → is_number z ≡ true → IsWordForm z (Ok (Some (form.Number z)))
  unfolding word_form chain
  word_number h i j k = chain_4 (bytes_eq z (codes "true")) (bytes_eq z (codes "false")) (is_name z) (is_number z) (is_binary z) (is_hex z) true_word false_word (name z) (number z) (binary z) (hex z) h i j k ∙ ap Some (sym (form-Number z))

  pub word_binary : bytes_eq z (codes "true") ≡ false → bytes_eq z (codes "false") ≡ false → is_name z ≡ false → is_number z ≡ false → is_binary z ≡ true
      → IsWordForm z (Ok (Some (form.Binary z)))
  unfolding word_form chain
  word_binary h i j k l = chain_5 (bytes_eq z (codes "true")) (bytes_eq z (codes "false")) (is_name z) (is_number z) (is_binary z) (is_hex z) true_word false_word (name z) (number z) (binary z) (hex z) h i j k l ∙ ap Some (sym (form-Binary z))

  pub word_hex : bytes_eq z (codes "true") ≡ false → bytes_eq z (codes "false") ≡ false → is_name z ≡ false → is_number z ≡ false → is_binary z ≡ false → is_hex z ≡ true
      → IsWordForm z (Ok (Some (form.Hex z)))
  unfolding word_form chain
  word_hex h i j k l m = chain_6 (bytes_eq z (codes "true")) (bytes_eq z (codes "false")) (is_name z) (is_number z) (is_binary z) (is_hex z) true_word false_word (name z) (number z) (binary z) (hex z) h i j k l m ∙ ap Some (sym (form-Hex z))

  pub word_none : bytes_eq z (codes "true") ≡ false → bytes_eq z (codes "false") ≡ false → is_name z ≡ false → is_number z ≡ false → is_binary z ≡ false → is_hex z ≡ false → IsWordForm z (Ok None)
  unfolding word_form chain
  word_none h i j k l m = chain_none (bytes_eq z (codes "true")) (bytes_eq z (codes "false")) (is_name z) (is_number z) (is_binary z) (is_hex z) true_word false_word (name z) (number z) (binary z) (hex z) h i j k l m

-- a word as a type
module _ {X : Type 0} (a b c : Bool) (t u v : X) where
  short : Option X
  short = if a then Some t else if b then Some u else if c then Some v else None

  short_1 : a ≡ true → short ≡ Some t
  unfolding short
  short_1 h = rw h refl

  short_2 : a ≡ false → b ≡ true → short ≡ Some u
  unfolding short
  short_2 h i = rw (h, i) refl

  short_3 : a ≡ false → b ≡ false → c ≡ true → short ≡ Some v
  unfolding short
  short_3 h i j = rw (h, i, j) refl

  short_none : a ≡ false → b ≡ false → c ≡ false → short ≡ None
  unfolding short
  short_none h i j = rw (h, i, j) refl

module _ (z : List ℕ) where
  pub type_named : (w : List ℕ) → is_type_name z ≡ true → w ≡ z → IsWordType z (Ok (Some (type_form.Named w)))
  unfolding word_type short
  type_named w h e = short_1 (is_type_name z) (bytes_eq z (codes "bool")) (bytes_eq z (codes "real")) (named z) bool real h ∙ ap Some (sym (type-Named z)) ∙ ap (λ v. Some (plain_type_form (type_form.Named v))) (sym e)

  pub type_bool : is_type_name z ≡ false → bytes_eq z (codes "bool") ≡ true → IsWordType z (Ok (Some type_form.Bool))
  unfolding word_type short
  type_bool h i = short_2 (is_type_name z) (bytes_eq z (codes "bool")) (bytes_eq z (codes "real")) (named z) bool real h i ∙ ap Some (sym type-Bool)

  pub type_real : is_type_name z ≡ false → bytes_eq z (codes "bool") ≡ false → bytes_eq z (codes "real") ≡ true → IsWordType z (Ok (Some type_form.Real))
  unfolding word_type short
  type_real h i j = short_3 (is_type_name z) (bytes_eq z (codes "bool")) (bytes_eq z (codes "real")) (named z) bool real h i j ∙ ap Some (sym type-Real)

  pub type_none : is_type_name z ≡ false → bytes_eq z (codes "bool") ≡ false → bytes_eq z (codes "real") ≡ false → IsWordType z (Ok None)
  unfolding word_type short
  type_none h i j = short_none (is_type_name z) (bytes_eq z (codes "bool")) (bytes_eq z (codes "real")) (named z) bool real h i j
