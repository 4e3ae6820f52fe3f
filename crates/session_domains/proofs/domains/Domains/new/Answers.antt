use Rattle.std.proofs.Common.{rules}
use Rattle.session_domains.proofs.SessionLemmas.{none_stands}
use Rattle.session_domains.proofs.domains.Domains.new.Goals as goal

pub returns : goal.returns
returns c = λ settings transport life. none_stands settings _ transport life (search rules) (search rules)
