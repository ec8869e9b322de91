-- What a source and a sink in memory hold.
use Rattle.std.specs.Prelude.{ℕ, List}
use Rattle.y_io.specs.declared.memory.MemorySink.{MemorySink}

-- the bytes that the sink holds
abbrev pub bytes_of : MemorySink → List ℕ
bytes_of s = s.bytes.items

-- how many bytes the sink takes in all
abbrev pub room_of : MemorySink → ℕ
room_of s = s.room
