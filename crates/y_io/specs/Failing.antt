-- Where a failing source and a failing sink are still to fail.
use Rattle.std.specs.Prelude.{ℕ, Bool, not, ◌&&◌, ◌==◌, Option, Some, None, length, if◌then◌else◌}
use Rattle.y_io.specs.Names.{name_eq}
use Rattle.y_io.specs.declared.file_name.FileName.{FileName}
use Rattle.y_io.specs.Memory.{bytes_of, room_of}
use Rattle.y_io.specs.declared.failing.FailingSource.{FailingSource}
use Rattle.y_io.specs.declared.failing.FailingSink.{FailingSink}

-- whether a read of that text that begins at that place is still to fail
abbrev pub is_stop : FailingSource → FileName → ℕ → Bool
is_stop s name place = not s.stopped && (name_eq s.stop_name name && (s.stop_place == place))

-- how many bytes were written
abbrev pub count_of : FailingSink → ℕ
count_of s = length (bytes_of s.inner)

-- how many bytes there is room for in all
abbrev pub limit_of : FailingSink → ℕ
limit_of s = room_of s.inner

-- the number of bytes at which a write is still to fail
abbrev pub stop_of : FailingSink → Option ℕ
stop_of s = if s.stopped then None else Some s.stop
