mod FreeLemmas
mod DelLemmas
mod CheckLemmas
mod AdminLemmas
mod PoolLemmas
