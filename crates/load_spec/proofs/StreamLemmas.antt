-- Generated events are one stream of messages.
use Rattle.std.proofs.Common.{◌≡◌, ℕ, false, List, [], ◌∷◌, ◌++◌, map, refl, ap, sym, inr, append-nil}
use Rattle.std.specs.List.{concat}
use Rattle.wire_spec.specs.Stream.{IsCut}
use Rattle.arrival_spec.specs.declared.event.Scripted.TheVariants.{Opened, Bytes, Closed}
use Rattle.arrival_spec.specs.Numbers.{first_numbers}
use Rattle.arrival_spec.specs.Events.{events_of}
use Rattle.arrival_spec.specs.OneStream.{IsOneStream, one_session}
use Rattle.arrival_spec.specs.Run.{arrivals_of}
use Rattle.arrival_spec.specs.Sessions.{is_datagrams}
use Rattle.arrival_spec.specs.Settings.{Settings}
use Rattle.arrival_spec.proofs.OneStream.{one_stream_arrives}
use Rattle.file_spec.specs.Said.{AreSaid}
use Rattle.file_spec.proofs.CutLemmas.{all_framed}
use Rattle.load_spec.specs.Draws.{state_after}
use Rattle.load_spec.specs.Load.{draws_before, load_events, load_messages, load_message}
use Rattle.load_spec.specs.Said.{message_said, load_said}
use Rattle.load_spec.proofs.SaidLemmas.{message_is}

said_each : (number : ℕ) (numbers : List ℕ) → AreSaid (map (load_message number) numbers) (map (λ i. message_said (state_after (draws_before i) number) i) numbers)
said_each number [] = tt
said_each number (i ∷ numbers) = (message_is (state_after (draws_before i) number) i, said_each number numbers)

pub all_say : (number count : ℕ) → AreSaid (load_messages number count) (load_said number count)
all_say number count = said_each number (first_numbers count)

pub all_cut : (number count : ℕ) → IsCut (concat (load_messages number count)) (load_messages number count) []
all_cut number count = record {
  whole = sym (append-nil (concat (load_messages number count)));
  each = all_framed (load_messages number count) (load_said number count) (all_say number count);
  ends = refl;
}

-- each event is one, since the generator always has the next
all_events : (messages : List (List ℕ)) → events_of (map (Bytes 0) messages ++ Closed 0 ∷ []) ≡ map (Bytes 0) messages ++ Closed 0 ∷ []
all_events [] = refl
all_events (m ∷ messages) = ap (λ l. Bytes 0 m ∷ l) (all_events messages)

pub one_stream : (number count : ℕ) → IsOneStream (load_events number count) (load_messages number count)
one_stream number count = inr refl

pub all_arrive : (settings : Settings) (input number count : ℕ) → is_datagrams settings.transport ≡ false → settings.stop_after ≡ 0
    → arrivals_of settings input (load_events number count) ≡ one_session input settings.transport (load_messages number count)
all_arrive settings input number count stream all =
    one_stream_arrives settings input stream (load_events number count) (load_messages number count) (load_messages number count) [] all
    (inr (ap (λ l. Opened 0 ∷ l) (all_events (load_messages number count)))) (all_cut number count)
