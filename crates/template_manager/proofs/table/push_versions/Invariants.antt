use Rattle.std.proofs.Common.{◌≡◌, ◌++◌, map, take}
use Rattle.template_manager.specs.Rows.{version_entry}
use Rattle.template_manager.proofs.table.push_versions.Given as goal

abbrev pub invariant-loop-version : goal.invariant-loop-version
invariant-loop-version l = l.rows.items ≡ l.initial.rows.items ++ map (version_entry l.id) (take l.version-index l.versions)
