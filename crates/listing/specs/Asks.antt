-- What a line asks for, of which at most 128 bytes are kept.
use Rattle.numbers.specs.Told.{choose}
use Rattle.lines.specs.Carry.{Held}
use Rattle.lines.specs.Record.{record_of}
use Rattle.std.specs.Prelude.{Option}
use Rattle.lines.specs.declared.record.Walk.{Walk as Record}
use Rattle.std.specs.Prelude.{None}

-- what a finished line asks for. Request K3: "Refusals: 7 also for an overlong line"
unfoldable pub asks : Held → Option Record
asks h = choose h.overlong None (record_of h.text)
