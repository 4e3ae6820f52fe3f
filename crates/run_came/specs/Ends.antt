-- How a log ended, and the intermediates.
use Rattle.std.specs.Prelude.{ℕ, Bool, true, false, List, Option, Some, None, replicate, set}
use Rattle.site_io.specs.declared.outside.OutsideFault.{OutsideFault}
use Rattle.order_log.specs.declared.order_log.OrderLog.{OrderLog}

-- why the log ended, if there is one and it did
abbrev pub log_fault : {K : Type 0} → Option (OrderLog K) → Option OutsideFault
log_fault None = None
log_fault (Some log) = log.fault

-- whether each of so many intermediates wanted memory: that of this index, if one did
abbrev pub wanting : ℕ → Option ℕ → List Bool
wanting count None = replicate count false
wanting count (Some k) = set (replicate count false) k true
