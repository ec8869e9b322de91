-- The test whether two names of texts are the same.
use Rattle.std.specs.Prelude.{Bool, true, false}
use Rattle.std.specs.Str.{bytes_eq}
use Rattle.y_io.specs.declared.file_name.FileName.{FileName}
use Rattle.y_io.specs.declared.file_name.FileName.TheVariants.{Input, Named}

-- whether both are the same name
abbrev pub name_eq : FileName → FileName → Bool
name_eq Input Input = true
name_eq Input (Named n) = false
name_eq (Named m) Input = false
name_eq (Named m) (Named n) = bytes_eq m n
