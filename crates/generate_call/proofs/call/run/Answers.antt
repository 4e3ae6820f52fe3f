use Rattle.std.proofs.Common.{ap, sym, ◌∙◌}
use Rattle.std.specs.Prelude.{Ok}
use Rattle.call_spec.specs.Load.{load_text}
use Rattle.generate_call.proofs.KnownConf.{accepted, load_described}
use Rattle.generate_call.proofs.call.run.Goals as goal

pub make_ready-requires : goal.make_ready-requires
make_ready-requires g c = record { described = (load_text, load_described ∙ ap accepted (sym c.requires.conf)) }
