use Rattle.file_lines.proofs.SessionLemmas.{data_unknown, data_found}
use Rattle.file_lines.proofs.session.put_data.Goals as goal

pub returns-in-Some : goal.returns-in-Some
returns-in-Some c =
    data_found c.args.domains.now c.args.header.domain c.args.set.id c.args.set.body.now c.args.texts.now c.put_body.new.self c.in-Some.definition.now.value c.in-Some.ensures.well_formed c.requires c.in-Some.ensures.found c.put_body.ensures

pub returns-in_default : goal.returns-in_default
returns-in_default c = data_unknown c.args.domains.now c.args.header.domain c.args.set.id c.args.set.body.now c.args.texts.now c.requires c.in_default.ensures.found
