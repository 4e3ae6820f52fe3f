-- What is said in a step of a call.
use Rattle.std.specs.Prelude.{ℕ, ◌≡◌, List, Result}
use Rattle.site_io.specs.declared.outside.OutsideFault.{OutsideFault}
use Rattle.site_io.specs.Seen.{Seen, ChangesSay}
use Rattle.call_spec.specs.Lines.{Said, usage_text, fine_text, memory_text, source_start, sink_start, limit_start, memory_start, description_start, elements_start, colon, log_name, octets_start, space, line_end}
use Rattle.run_lines.specs.declared.saying.Piece.{Piece}
use Rattle.run_lines.specs.declared.saying.Piece.TheVariants as piece

abbrev pub piece_text : Piece → List ℕ
piece_text piece.Usage = usage_text
piece_text piece.Fine = fine_text
piece_text piece.Memory = memory_text
piece_text piece.Source = source_start
piece_text piece.Sink = sink_start
piece_text piece.Limit = limit_start
piece_text piece.Wanting = memory_start
piece_text piece.Description = description_start
piece_text piece.Elements = elements_start
piece_text piece.Colon = colon
piece_text piece.Log = log_name
piece_text piece.Octets = octets_start
piece_text piece.Space = space
piece_text piece.End = line_end

-- a text was said, and nothing else changed
pub record Says (old new : Seen) (text : List ℕ) (said : Result (Unit {0}) OutsideFault) : Type 0 where
  pub rest : ChangesSay old new
  pub text_said : Said said old.say new.say text
