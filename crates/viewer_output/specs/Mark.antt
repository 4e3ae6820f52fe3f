-- The pieces of a line that are the same each time.
use Rattle.std.specs.Prelude.{List, ℕ}
use Rattle.text_spec.specs.Marks.{session_mark, slash, open_mark, close_mark, tick_mark, space, message_mark, domain_mark, export_mark, sequence_mark, records_mark, template_mark, line_feed}
use Rattle.viewer_output.specs.declared.mark.Mark.{Mark}
use Rattle.viewer_output.specs.declared.mark.Mark.TheVariants as M

abbrev pub mark_text : Mark → List ℕ
mark_text M.Session = session_mark
mark_text M.Slash = slash
mark_text M.Open = open_mark
mark_text M.Close = close_mark
mark_text M.Tick = tick_mark
mark_text M.Space = space
mark_text M.Message = message_mark
mark_text M.Domain = domain_mark
mark_text M.Export = export_mark
mark_text M.Sequence = sequence_mark
mark_text M.Records = records_mark
mark_text M.Template = template_mark
mark_text M.LineFeed = line_feed
