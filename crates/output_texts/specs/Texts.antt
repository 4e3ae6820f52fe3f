-- What a maker of the text of an output stands for, by its kind.
use Rattle.std.specs.Prelude.{ℕ, List}
use Rattle.config_spec.specs.declared.conf.OutputConf.{OutputConf}
use Rattle.text_spec.specs.declared.element.Element.{Element}
use Rattle.run_spec.specs.Work.{Item}
use Rattle.text_output.specs.Output.{Makes}
use Rattle.file_texts.specs.Texts as file
use Rattle.output_texts.specs.declared.texts.OutputTexts.{OutputTexts}
use Rattle.output_texts.specs.declared.texts.OutputTexts.TheVariants.{Text, File}

-- text is made whatever came before, and a file is that of the items that came
abbrev pub Stands : OutputConf → List Element → List Item → OutputTexts → Type 0
Stands output table items (Text texts) = Makes output table texts
Stands output table items (File texts) = file.Stands output items texts

-- the text of the message that was put last
abbrev pub text_of : OutputTexts → List ℕ
text_of (Text texts) = texts.text
text_of (File texts) = texts.text
