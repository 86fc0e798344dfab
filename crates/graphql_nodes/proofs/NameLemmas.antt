-- Names are the same where their texts are.
use Rattle.std.proofs.Common.{◌≡◌, refl, sym, ◌∙◌}
use Rattle.std.proofs.lemmas.Slice.Eq.{bytes_eq-Decides}
use Rattle.graphql_nodes.specs.Names.{NameText, SameName, DifferentNames}

pub same_text : (a b : NameText) → SameName a b → a.text ≡ b.text
same_text a b same = (bytes_eq-Decides a.text b.text).0 same

pub from_same_text : (a b : NameText) → a.text ≡ b.text → SameName a b
from_same_text a b same = (bytes_eq-Decides a.text b.text).1 same

pub same_name_itself : (a : NameText) → SameName a a
same_name_itself a = from_same_text a a refl

pub same_name_back : (a b : NameText) → SameName a b → SameName b a
same_name_back a b ab = from_same_text b a (sym (same_text a b ab))

pub same_name_then : (a b c : NameText) → SameName a b → SameName b c → SameName a c
same_name_then a b c ab bc = from_same_text a c (same_text a b ab ∙ same_text b c bc)

-- names are not both the same and different
pub not_both : (a b : NameText) → SameName a b → DifferentNames a b → ⊥
not_both a b same other = cc
