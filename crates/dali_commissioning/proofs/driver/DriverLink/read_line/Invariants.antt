use Rattle.std.proofs.Common.{◌≡◌}
use Rattle.std.specs.Io.KnownBytes.{Consumes}
use Rattle.dali_commissioning.specs.Drivers.{reader_of, writer_of, lines_of, next_line, line_of, has_heard, fault_of}
use Rattle.dali_commissioning.proofs.driver.DriverLink.read_line.Given as goal

abbrev pub invariant-loop : goal.invariant-loop
invariant-loop g l = record {
  read : Consumes (g.R.Read.remaining (reader_of l.fn.self)) (g.R.Read.remaining (reader_of l.self)) (line_of l.self);
  writer : writer_of l.self ≡ writer_of l.fn.self;
  lines : lines_of l.self ≡ next_line (lines_of l.fn.self);
  heard : has_heard l.self ≡ has_heard l.fn.self;
  fault : fault_of l.self ≡ fault_of l.fn.self;
}
