mod BracketLemmas
mod SlipLemmas
mod StringLemmas
