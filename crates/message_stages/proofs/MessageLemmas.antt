-- Messages behind all intermediates.
use Rattle.std.proofs.Common.{◌≡◌, ℕ, List, [], ◌∷◌, Option, Some, map, refl, ap, sym, subst, ◌∙◌}
use Rattle.std.specs.List.{cons_option}
use Rattle.config_spec.specs.declared.conf.StageConf.{StageConf}
use Rattle.config_spec.specs.declared.conf.StageWork.{StageWork}
use Rattle.run_spec.specs.Work.{Item}
use Rattle.run_spec.specs.Work.Item.{Data}
use Rattle.result_spec.specs.Through.{items_through}
use Rattle.pipeline_message.specs.declared.message.DataMessage.{DataMessage}
use Rattle.pipeline_message.specs.declared.message.DataSet.{DataSet}
use Rattle.pipeline_message.specs.declared.message.SessionNote.{SessionNote}
use Rattle.pipeline_message.specs.declared.message.Msg.{Msg}
use Rattle.pipeline_message.specs.declared.message.Msg.TheVariants.{SessionMsg, Periodic, Terminate}
use Rattle.pipeline_message.specs.Items.{data_of, item_of, items_of, set_of, IsSound, IsSoundMessage}
use Rattle.stage_chain.specs.Behind.{sets_behind, works_of}
use Rattle.stage_chain.proofs.BehindLemmas.{message_behind}
use Rattle.message_stages.specs.Behind.{IsBehind}
use Rattle.message_stages.specs.Message.{IsLeftOf}
use Rattle.message_stages.proofs.ItemLemmas.{all_filled, none_stays, note_stays, tick_stays}

one_item : (msg : Msg) (item : Item) → item_of msg ≡ Some item → items_of (msg ∷ []) ≡ item ∷ []
one_item msg item is = ap (λ (o : Option Item). cons_option o []) is

-- there is no intermediate
pub by_none : (works : List StageWork) (message : Msg) → works ≡ [] → IsSoundMessage message → IsBehind works message message
by_none works message none sound = record { sound = sound; items = λ stages is. by_stages stages (is ∙ none) }
  where
    by_stages : (stages : List StageConf) → works_of stages ≡ [] → items_of (message ∷ []) ≡ items_through stages (items_of (message ∷ []))
    by_stages [] is = refl
    by_stages (s ∷ stages) is = absurd cc

-- notes and seconds are as they were
pub note_behind : (works : List StageWork) (message : Msg) (note : SessionNote) → message ≡ SessionMsg note → IsBehind works message message
note_behind works message note is = subst (λ (m : Msg). IsBehind works m m) (sym is) (record { sound = tt; items = λ stages of. sym (note_stays stages note.key note.transport note.opened) })

pub tick_behind : (works : List StageWork) (message : Msg) (input seconds : ℕ) → message ≡ Periodic input seconds → IsBehind works message message
tick_behind works message input seconds is = subst (λ (m : Msg). IsBehind works m m) (sym is) (record { sound = tt; items = λ stages of. sym (tick_stays stages input seconds) })

pub end_behind : (works : List StageWork) (message : Msg) → message ≡ Terminate → IsBehind works message message
end_behind works message is = subst (λ (m : Msg). IsBehind works m m) (sym is) (record { sound = tt; items = λ stages of. sym (none_stays stages) })

-- what the intermediates leave of a message with records
data_behind : (stages : List StageConf) (works : List StageWork) (m : DataMessage) → works_of stages ≡ works → IsSound m
    → items_through stages (data_of m ∷ []) ≡ Data m.session m.domain m.export m.seq (sets_behind works (map (set_of m.octets.value) m.sets.items)) ∷ []
data_behind stages works m is sound =
    let sets = map (set_of m.octets.value) m.sets.items in
    message_behind stages m.session m.domain m.export m.seq sets (all_filled m.octets.value m.sets.items sound.0)
    ∙ ap (λ (w : List StageWork). Data m.session m.domain m.export m.seq (sets_behind w sets) ∷ []) is

pub left_behind : (works : List StageWork) (message left : Msg) (m : DataMessage) → item_of message ≡ Some (data_of m) → IsSound m → IsLeftOf works m left → IsBehind works message left
left_behind works message left m is sound l = record {
  sound = l.sound;
  items = λ stages of. one_item left _ l.item ∙ (sym (data_behind stages works m of sound) ∙ ap (items_through stages) (sym (one_item message (data_of m) is)));
}

-- it has no records
pub empty_behind : (works : List StageWork) (message : Msg) (m : DataMessage) → item_of message ≡ Some (data_of m) → m.sets.items ≡ [] → IsSoundMessage message → IsSound m → IsBehind works message message
empty_behind works message m is none whole sound = left_behind works message message m is sound (record {
  sound = whole;
  item = is
      ∙ ap (λ (l : List DataSet). Some (Data m.session m.domain m.export m.seq (map (set_of m.octets.value) l))) none
      ∙ ap (λ (l : List DataSet). Some (Data m.session m.domain m.export m.seq (sets_behind works (map (set_of m.octets.value) l)))) (sym none);
})
