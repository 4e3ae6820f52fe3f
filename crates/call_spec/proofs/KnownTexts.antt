-- Known lines and texts: each by computation.
use Rattle.std.proofs.Common.{◌≡◌, List, [], ◌∷◌, Some, true, refl}
use Rattle.std.specs.Prelude.{codes}
use Rattle.std.specs.Fmt.{digits}
use Rattle.site_io.specs.declared.outside.OutsideFault.TheVariants as fault
use Rattle.call_spec.specs.declared.end.InputEnd.TheVariants as end
use Rattle.call_spec.specs.declared.end.OutputFault.TheVariants as output
use Rattle.call_spec.specs.Lines.{fault_lines, source_start, sink_start, limit_start, memory_start, log_name, line_end}
use Rattle.call_spec.specs.Summary.{summary_text, sessions_word, messages_word, records_word, malformed_word, late_word, skipped_word, ignored_word, redefined_word, lost_word, disordered_word, torn_word, broken_word, refused_word, crowded_word, stray_word, opened_word, released_word, row_end}
use Rattle.call_spec.specs.Examples.{came_to, one_to_fifteen, run_with, two_parties}

pub lines_in_order : fault_lines two_parties (run_with (came_to end.Failed true ∷ came_to end.Memory true ∷ []) (Some fault.Failed) (true ∷ []) (Some output.Failed ∷ Some output.Limit ∷ [])) ≡ codes "source fault: a\nmemory: b\nsink fault: order-log\nmemory: f\nsink fault: o\nlimit: p\n"
unfolding source_start sink_start limit_start memory_start log_name line_end
lines_in_order = refl

pub known_summary : summary_text one_to_fifteen ≡ codes "sessions 1\nmessages 2\nrecords 3\nmalformed 4\nlate 5\nskipped 6\nignored 7\nredefined 8\nlost 9\ndisordered 10\ntorn 11\nbroken 12\nrefused 13\ncrowded 14\nstray 15\nopened 0\nreleased 0\n"
unfolding sessions_word messages_word records_word malformed_word late_word skipped_word ignored_word redefined_word lost_word disordered_word torn_word broken_word refused_word crowded_word stray_word opened_word released_word row_end digits
known_summary = refl
