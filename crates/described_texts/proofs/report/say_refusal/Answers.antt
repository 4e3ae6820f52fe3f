use Rattle.described_texts.proofs.report.say_refusal.Goals as goal

pub returns-in-BadDescription : goal.returns-in-BadDescription
returns-in-BadDescription g c = rw c.in-BadDescription.is (c.say_line.ensures _ c.description_line.ensures)

pub returns-in-BadElements : goal.returns-in-BadElements
returns-in-BadElements g c = rw c.in-BadElements.is (c.say_line-in-BadElements.ensures _ c.elements_line.ensures)
