use Rattle.std.proofs.Common.{refl}
use Rattle.template_spec.proofs.LatestLemmas.{latest_is, latest_of, outlived, valid_latest}
use Rattle.template_spec.proofs.valid.the_latest_definition_is_valid_while_it_lives.Goals as goal

pub returns : goal.returns
returns c = record {
  in_files = λ life touches time id. refl;
  over_tcp = λ life touches time id. refl;
  is_latest = valid_latest;
  is_newest = latest_of;
  newest_is = latest_is;
  outlived = outlived;
}
