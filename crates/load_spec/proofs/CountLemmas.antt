-- What a run over generated events counts: each message is read as it says, and the rest is computed.
use Rattle.std.proofs.Common.{ℕ, List, [], ◌∷◌, ◌++◌, map, refl}
use Rattle.std.specs.Prelude.{Ok}
use Rattle.col_base.specs.declared.base.SessionKey.{SessionKey}
use Rattle.col_base.specs.declared.base.Transport.{Transport}
use Rattle.col_base.specs.declared.base.Transport.TheVariants.{File, Tcp}
use Rattle.arrival_spec.specs.Arrival.{Arrival}
use Rattle.arrival_spec.specs.Arrival.Arrival.{SessionOpen, Raw, SessionClose}
use Rattle.arrival_spec.specs.Numbers.{first_numbers}
use Rattle.arrival_spec.specs.Sessions.{key_of}
use Rattle.run_spec.specs.Examples.{all_over}
use Rattle.run_spec.specs.Read.{ReadArrival, AreReadAs}
use Rattle.count_spec.specs.Counts.{Counts}
use Rattle.count_spec.specs.Run.{AreCounts}
use Rattle.count_spec.specs.Examples.{nothing_counted}
use Rattle.load_spec.specs.Draws.{state_after}
use Rattle.load_spec.specs.Load.{draws_before, load_events, load_message, load_messages}
use Rattle.load_spec.specs.Said.{message_said, load_said}
use Rattle.load_spec.proofs.SaidLemmas.{message_is}

-- messages are read, and then others
read_each : (key : SessionKey) (number : ℕ) (numbers : List ℕ) (arrivals : List (Arrival (List ℕ))) (read : List ReadArrival) → AreReadAs arrivals read
    → AreReadAs (map (Raw key) (map (load_message number) numbers) ++ arrivals) (map (λ m. Raw key (Ok m)) (map (λ i. message_said (state_after (draws_before i) number) i) numbers) ++ read)
read_each key number [] arrivals read r = r
read_each key number (i ∷ numbers) arrivals read r =
    let m = message_said (state_after (draws_before i) number) i in
    ((Ok m, message_is (state_after (draws_before i) number) i, refl), read_each key number numbers arrivals read r)

-- the counts, and what is read
abbrev nine_counted : Counts
nine_counted = record nothing_counted { sessions = 1; messages = 9; records = 36 }

abbrev nine_read : Transport → ℕ → List ReadArrival
nine_read transport number = SessionOpen (key_of 0 0) transport ∷ (map (λ m. Raw (key_of 0 0) (Ok m)) (load_said number 9) ++ SessionClose (key_of 0 0) ∷ [])

are_read : (number : ℕ) → AreReadAs (map (Raw (key_of 0 0)) (load_messages number 9) ++ SessionClose (key_of 0 0) ∷ []) (map (λ m. Raw (key_of 0 0) (Ok m)) (load_said number 9) ++ SessionClose (key_of 0 0) ∷ [])
are_read number = read_each (key_of 0 0) number (first_numbers 9) (SessionClose (key_of 0 0) ∷ []) (SessionClose (key_of 0 0) ∷ []) (refl, tt)

pub file_counted : (number : ℕ) → AreCounts (all_over File) (load_events number 9 ∷ []) (record nothing_counted { sessions = 1; messages = 9; records = 36 })
file_counted number = (nine_counted, nothing_counted, (nine_read File number, (refl, are_read number), refl), refl, refl)

pub tcp_counted : (number : ℕ) → AreCounts (all_over Tcp) (load_events number 9 ∷ []) (record nothing_counted { sessions = 1; messages = 9; records = 36 })
tcp_counted number = (nine_counted, nothing_counted, (nine_read Tcp number, (refl, are_read number), refl), refl, refl)
