mod JsonLemmas
mod TextLemmas
