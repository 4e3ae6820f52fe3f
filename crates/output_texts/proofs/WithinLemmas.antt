-- A maker of one kind within one of any kind.
use Rattle.std.proofs.Common.{◌≡◌, ℕ, List, [], ◌∷◌, ◌++◌, refl, ap, sym, ◌∙◌}
use Rattle.config_spec.specs.declared.conf.OutputConf.{OutputConf}
use Rattle.text_spec.specs.declared.element.Element.{Element}
use Rattle.run_spec.specs.Work.{Item}
use Rattle.pipeline_message.specs.declared.message.Msg.{Msg}
use Rattle.pipeline_message.specs.Items.{items_of}
use Rattle.message_texts.specs.declared.texts.TextFault.{TextFault}
use Rattle.message_texts.specs.declared.texts.TextFault.TheVariants as fault
use Rattle.message_texts.specs.Puts.{text_at, Puts, Keeps, MeetsLimit}
use Rattle.text_output.specs.declared.output.TextOutput.{TextOutput}
use Rattle.text_output.specs.Output.{Makes}
use Rattle.file_texts.specs.declared.maker.FileTexts.{FileTexts}
use Rattle.file_texts.specs.Texts as file
use Rattle.output_texts.specs.declared.texts.OutputTexts.{OutputTexts}
use Rattle.output_texts.specs.declared.texts.OutputTexts.TheVariants.{Text, File}
use Rattle.output_texts.specs.Texts.{Stands, text_of}

-- it stands for what the one within stands for, and has its text
pub record IsAround {T : Type 0} (stands : OutputConf → List Element → List Item → T → Type 0) (last : T → List ℕ) (around : T → OutputTexts) : Type 0 where
  pub inner : (output : OutputConf) (table : List Element) (items : List Item) (x : T) → Stands output table items (around x) → stands output table items x
  pub outer : (output : OutputConf) (table : List Element) (items : List Item) (x : T) → stands output table items x → Stands output table items (around x)
  pub text : (x : T) → text_of (around x) ≡ last x

pub around_text : IsAround (λ (output : OutputConf) (table : List Element) (items : List Item) (t : TextOutput). Makes output table t) (λ (t : TextOutput). t.text) Text
around_text = record { inner = λ output table items x s. s; outer = λ output table items x s. s; text = λ x. refl }

pub around_file : IsAround (λ (output : OutputConf) (table : List Element) (items : List Item) (t : FileTexts). file.Stands output items t) (λ (t : FileTexts). t.text) File
around_file = record { inner = λ output table items x s. s; outer = λ output table items x s. s; text = λ x. refl }

module _ {T : Type 0} {stands : OutputConf → List Element → List Item → T → Type 0} {last : T → List ℕ} {around : T → OutputTexts} (is : IsAround stands last around) (message : Msg) (old new : T) where
  pub puts_around : Puts stands last message old new → Puts Stands text_of message (around old) (around new)
  puts_around p = λ output table items s.
      (let q = p output table items (is.inner output table items old s) in record {
        stands_for = is.outer output table (items ++ items_of (message ∷ [])) new q.stands_for;
        grows = q.grows ∙ ap (λ (t : List ℕ). text_at table output items ++ t) (sym (is.text new));
        enough = q.enough;
      })

  pub keeps_around : Keeps stands old new → Keeps Stands (around old) (around new)
  keeps_around k = λ output table items s. is.outer output table items new (k output table items (is.inner output table items old s))

  pub limit_around : (f : TextFault) → MeetsLimit stands f message old → MeetsLimit Stands f message (around old)
  limit_around fault.Limit l = λ output table items s. l output table items (is.inner output table items old s)
  limit_around fault.NoMemory l = l
