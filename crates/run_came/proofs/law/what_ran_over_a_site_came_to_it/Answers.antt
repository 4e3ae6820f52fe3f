use Rattle.run_came.proofs.RunLemmas.{came_to}
use Rattle.run_came.proofs.law.what_ran_over_a_site_came_to_it.Goals as goal

pub returns : goal.returns
returns g c left faults held total sink_faults conf texts xs taker ended old new long distinct r noted = came_to left faults g.T.MessageTexts.stands held total sink_faults conf texts xs taker ended old new long distinct r noted
