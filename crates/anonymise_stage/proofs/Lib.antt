mod StepLemmas
mod RangeLemmas
mod SegmentLemmas
mod TableLemmas
mod PreparedLemmas
