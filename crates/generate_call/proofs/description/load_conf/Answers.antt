use Rattle.std.proofs.Common.{◌≡◌, ap, sym, ◌∙◌}
use Rattle.std.specs.Prelude.{Ok}
use Rattle.config_spec.specs.Description.{description}
use Rattle.call_spec.specs.Load.{load_conf}
use Rattle.generate_call.proofs.KnownConf.{accepted_once, load_described}
use Rattle.generate_call.proofs.description.load_conf.Goals as goal

pub returns-in-Ok : goal.returns-in-Ok
returns-in-Ok c = accepted_once c.in-Ok.conf load_conf (sym c.in-Ok.ensures.ok ∙ (ap description c.load_text.ensures ∙ load_described))
