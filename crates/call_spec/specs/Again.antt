-- What it is that what a sink holds of a run's output of files is read as what came to the output.
use Rattle.std.specs.Prelude.{ℕ, ◌≡◌, ◌≤◌, List, length}
use Rattle.col_base.specs.declared.base.Transport.TheVariants.{File}
use Rattle.wire_spec.specs.Stream.{IsCut}
use Rattle.arrival_spec.specs.OneStream.{one_session}
use Rattle.config_spec.specs.declared.conf.Conf.{Conf}
use Rattle.run_spec.specs.Judge.{Inputs}
use Rattle.run_spec.specs.Read.{AreReadAs, ReadArrival}
use Rattle.run_spec.specs.Work.{Item}
use Rattle.file_spec.specs.Again.{AreSame}
use Rattle.file_spec.specs.Fit.{domains_of}
use Rattle.result_spec.specs.Result.{ComeTo}
use Rattle.call_spec.specs.Came.{RunCame}
use Rattle.call_spec.specs.Leaves.{given_of}

-- Items came to output j of a run. Where they are of at most 1,024 domains, an input of any run reads the text, as one session
-- of a file, as those of the items that the output kept.
pub record IsReadAgain (conf : Conf) (run : RunCame) (j : ℕ) (kept : List Item → List Item) (text : List ℕ) : Type 0 where
  pub items : List Item
  pub come : ComeTo conf (given_of run) run.order j items
  pub same : length (domains_of items) ≤ 1024 → (inputs : Inputs) (input : ℕ) → (inputs input).transport ≡ File
      → (messages : List (List ℕ)) (rest : List ℕ) (read : List ReadArrival) → IsCut text messages rest → AreReadAs (one_session input File messages) read → AreSame inputs read (kept items)
