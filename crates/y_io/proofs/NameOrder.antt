-- The order of names of texts tells all names apart.
use Rattle.std.proofs.Common.{◌≡◌, ◌≢◌, false, ap, refl, sym}
use Rattle.std.specs.declared.cmp.Ordering.{Ordering}
use Rattle.std.specs.declared.cmp.Ordering.TheVariants.{Less, Equal, Greater}
use Rattle.std.specs.declared.cmp.Ord.Ghosts.{cmp}
use Rattle.std.specs.BTreeMap.{is_at}
use Rattle.std.specs.Ordering.{is_eq}
use Rattle.std.proofs.lemmas.Map.Lookups.{exact_bytes}
use denote.Param.{read}
use Rattle.y_io.specs.declared.file_name.FileName.{FileName}
use Rattle.y_io.specs.declared.file_name.FileName.TheVariants.{Input, Named}
use Rattle.y_io.specs.contracts.file_name.FileNameOrd.TheImpl.{ghosts}

-- the order that the names derive
abbrev pub name_cmp : FileName → FileName → Ordering
name_cmp = read (cmp {X-1 = FileName}) ghosts

pub exact_names : (m n : FileName) → name_cmp m n ≡ Equal → m ≡ n
exact_names Input Input e = refl
exact_names Input (Named y) e = cc
exact_names (Named x) Input e = cc
exact_names (Named x) (Named y) e = ap Named (exact_bytes x y e)

-- an order that doesn't answer `Equal` tells two keys apart
is_eq-false : (o : Ordering) → o ≢ Equal → is_eq o ≡ false
is_eq-false Less h = refl
is_eq-false Equal h = absurd (h refl)
is_eq-false Greater h = refl

-- a query for a name is at no other name
pub is_at-false : (m n : FileName) → n ≢ m → is_at (name_cmp m) n ≡ false
is_at-false m n h = is_eq-false (name_cmp m n) (λ e. h (sym (exact_names m n e)))
