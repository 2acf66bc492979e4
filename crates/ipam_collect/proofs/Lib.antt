mod SuspectLemmas
mod FreesLemmas
mod OwnedLemmas
mod HeardLemmas
mod LiveLemmas
