-- What calls write: objects of errors.
use Rattle.std.specs.Prelude.{◌≡◌, ◌++◌, List, OnOk, Result}
use Rattle.json.specs.Print.{print}
use Rattle.json.specs.Token.{Token}
use Rattle.json.specs.Written.{Written}
use Rattle.graphql_answers.specs.declared.answers.Answer.{Answer}
use Rattle.graphql_answers.specs.declared.answers.Found.{Found}

-- the answer says where something is found, and its JSON is such an object
pub record IsAnswer (found : Found) (IsObject : List Token → Type 0) (answer : Answer) : Type 0 where
  pub found_is : answer.found ≡ found
  pub object : List Token
  pub is_object : IsObject object
  pub json_is : answer.json.items ≡ print object

-- a call that answers has appended such an object; what stood before the writer began stays in any case
pub record AppendsOne {E : Type 0} (result : Result (Unit {0}) E) (old new : Written) (IsObject : List Token → Type 0) : Type 0 where
  pub before : new.before ≡ old.before
  pub appended : OnOk result ((object : List Token) × IsObject object × (new.tokens ≡ old.tokens ++ object))
