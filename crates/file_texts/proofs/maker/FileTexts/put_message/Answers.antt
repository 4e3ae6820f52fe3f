use Rattle.std.proofs.Common.{[], ◌∷◌, refl, sym, subst}
use Rattle.pipeline_message.specs.declared.message.DataMessage.{DataMessage}
use Rattle.pipeline_message.specs.declared.message.Msg.{Msg}
use Rattle.pipeline_message.specs.Items.{data_of, items_of}
use Rattle.file_texts.specs.declared.maker.FileTexts.{FileTexts}
use Rattle.file_texts.specs.Texts.{Grows, NeedsMore}
use Rattle.file_texts.proofs.TextLemmas.{more_where, note_comes, stays, tick_comes}
use Rattle.file_texts.proofs.maker.FileTexts.put_message.Goals as goal

pub returns-in-SessionMsg-clause-ok : goal.returns-in-SessionMsg-clause-ok
returns-in-SessionMsg-clause-ok c =
    let old = c.args.self.now in
    let cleared : FileTexts = record { alloc = old.alloc; domains = old.domains; numbering = old.numbering; text = c.clear.new.self } in
    subst (λ (m : Msg). Grows (items_of (m ∷ [])) old cleared) (sym c.in-SessionMsg.is) (note_comes c.in-SessionMsg.field-0 old cleared refl refl c.clear.ensures)

pub returns-in-Periodic-clause-ok : goal.returns-in-Periodic-clause-ok
returns-in-Periodic-clause-ok c =
    let old = c.args.self.now in
    let cleared : FileTexts = record { alloc = old.alloc; domains = old.domains; numbering = old.numbering; text = c.clear.new.self } in
    subst (λ (m : Msg). Grows (items_of (m ∷ [])) old cleared) (sym c.in-Periodic.is) (tick_comes c.in-Periodic.input c.in-Periodic.seconds old cleared refl refl c.clear.ensures)

pub returns-in-Ok-clause-ok : goal.returns-in-Ok-clause-ok
returns-in-Ok-clause-ok c =
    let old = c.args.self.now in
    let cleared : FileTexts = record { alloc = old.alloc; domains = old.domains; numbering = old.numbering; text = c.clear.new.self } in
    subst (λ (m : Msg). Grows (items_of (m ∷ [])) old c.put_data.new.self) (sym c.in-DataMsg.is)
    (subst (λ (d : DataMessage). Grows (data_of d ∷ []) old c.put_data.new.self) c.deref.ensures (λ output items s. c.in-Ok.ensures.ok output items (stays old cleared refl refl output items s)))

pub returns-in-Err-clause-err : goal.returns-in-Err-clause-err
returns-in-Err-clause-err c =
    let old = c.args.self.now in
    let cleared : FileTexts = record { alloc = old.alloc; domains = old.domains; numbering = old.numbering; text = c.clear.new.self } in
    λ output items s. c.in-Err.ensures.err output items (stays old cleared refl refl output items s)

pub returns-in-Err-clause-limit : goal.returns-in-Err-clause-limit
returns-in-Err-clause-limit c =
    let old = c.args.self.now in
    let cleared : FileTexts = record { alloc = old.alloc; domains = old.domains; numbering = old.numbering; text = c.clear.new.self } in
    subst (λ (m : Msg). NeedsMore (items_of (m ∷ [])) old c.in-Err.fault) (sym c.in-DataMsg.is)
    (subst (λ (d : DataMessage). NeedsMore (data_of d ∷ []) old c.in-Err.fault) c.deref.ensures (more_where (data_of c.deref.result.now ∷ []) old cleared c.in-Err.fault refl refl c.in-Err.ensures.limit))
