use Rattle.file_lines.proofs.SessionLemmas.{takes_templates, takes_data, no_templates, data_low}
use Rattle.file_lines.proofs.session.take_set.Goals as goal

pub returns-in_ok-take_set-in-Templates-clause-ok : goal.returns-in_ok-take_set-in-Templates-clause-ok
returns-in_ok-take_set-in-Templates-clause-ok c =
    let t = c.in_ok-take_set-in-Templates.ensures in
    takes_templates c.args.set c.args.header.domain c.args.domains.now c.take_set.new.self c.args.texts.now t.0 c.requires t.1 t.2

pub returns-in-Data-clause-ok : goal.returns-in-Data-clause-ok
returns-in-Data-clause-ok c = takes_data c.args.set c.args.header.domain c.args.domains.now c.args.texts.now c.put_data.new.texts c.requires (no_templates c.args.set.id c.in-Data.ensures.1) c.put_data.ensures

pub returns-in-Reserved-clause-ok : goal.returns-in-Reserved-clause-ok
returns-in-Reserved-clause-ok c =
    takes_data c.args.set c.args.header.domain c.args.domains.now c.args.texts.now c.args.texts.now c.requires c.in-Reserved.ensures.0
    (data_low c.args.domains.now c.args.header.domain c.args.set.id c.args.set.body.now c.args.texts.now c.in-Reserved.ensures.1)
