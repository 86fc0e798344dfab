mod BlankLemmas
mod Utf8Lemmas
