-- What helps with the byte at which no token begins.
use Rattle.std.proofs.Common.{IfSome, ℕ, List, ◌∷◌, Option, None, Some}
use Rattle.graphql_syntax_helps.specs.SyntaxHelps.{HelpsAt, HelpsInNumber, HelpsInString, in_negative_number, in_number, in_string}
use Rattle.graphql_syntax_helps.specs.declared.helps.SyntaxHelp.{SyntaxHelp}

wider : (P Q : SyntaxHelp → Type 0) → ((h : SyntaxHelp) → P h → Q h) → (o : Option SyntaxHelp) → IfSome o P → IfSome o Q
wider P Q f None all = tt
wider P Q f (Some h) all = f h all

pub string_helps : (inside : List ℕ) (o : Option SyntaxHelp) → IfSome o (HelpsInString inside) → IfSome o (HelpsAt (34 ∷ inside))
string_helps inside o all = wider (HelpsInString inside) (HelpsAt (34 ∷ inside)) (λ h is. in_string inside h is) o all

pub number_helps : (digits : List ℕ) (o : Option SyntaxHelp) → IfSome o (HelpsInNumber digits) → IfSome o (HelpsAt digits)
number_helps digits o all = wider (HelpsInNumber digits) (HelpsAt digits) (λ h is. in_number digits h is) o all

pub negative_helps : (digits : List ℕ) (o : Option SyntaxHelp) → IfSome o (HelpsInNumber digits) → IfSome o (HelpsAt (45 ∷ digits))
negative_helps digits o all = wider (HelpsInNumber digits) (HelpsAt (45 ∷ digits)) (λ h is. in_negative_number digits h is) o all
