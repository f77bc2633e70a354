-- What readers and writers ask of a shape, whichever version it is: its numbers fit their fields, and a record has the bytes that its total's width
-- asks for.
-- Assumes nothing: these are definitions.
use Rattle.std.specs.Prelude.{◌<◌, ◌≡◌, cond}
use Rattle.segment.specs.declared.shape.Shape.{Shape}
use Rattle.segment.specs.Format.{record_bytes}

pub record Shaped (sh : Shape) : Type 0 where
  pub magic : sh.magic < 18446744073709551616
  pub version : sh.version < 65536
  pub size : sh.record_size ≡ record_bytes sh.total_wide
  pub limit : sh.total_limit < cond sh.total_wide 18446744073709551616 4294967296
