use Rattle.std.proofs.Common.{◌≡◌, [], ◌∷◌, ◌++◌, codes, rules}
use Rattle.std.proofs.lemmas.Result.{on_ok_weaker}
use Rattle.json.specs.Token.{begin_array, begin_object, end_array, end_object, key}
use Rattle.graphql_report_formats.specs.JsonReports.{location}
use Rattle.graphql_report_formats.proofs.JsonLemmas.{joined}
use Rattle.graphql_report_formats.proofs.json_format.add_locations.Goals as goal

pub returns : goal.returns
returns c =
    let old = c.args.json.now.tokens in
    let named = c.key.new.self.tokens in
    let begun = c.begin_array.new.self.tokens in
    let opened = c.begin_object.new.self.tokens in
    let with_place = c.add_place.new.json.tokens in
    let closed = c.end_object.new.self.tokens in
    let ended = c.end_array.new.self.tokens in
    let place = location c.in-Some.located.start in
    rw c.in-Some.is (record {
      before = search rules;
      appended = on_ok_weaker {P = ended ≡ closed ++ end_array ∷ []} c.end_array.result
          (λ e. joined old named ended (key (codes "locations") ∷ []) (begin_array ∷ begin_object ∷ (place ++ (end_object ∷ end_array ∷ []))) c.in_ok-key.ensures.ok
          (joined named begun ended (begin_array ∷ []) (begin_object ∷ (place ++ (end_object ∷ end_array ∷ []))) c.in_ok-begin_array.ensures.ok
          (joined begun opened ended (begin_object ∷ []) (place ++ (end_object ∷ end_array ∷ [])) c.in_ok-begin_object.ensures.ok
          (joined opened with_place ended place (end_object ∷ end_array ∷ []) c.in_ok-add_place.ensures.appended
          (joined with_place closed ended (end_object ∷ []) (end_array ∷ []) c.in_ok-end_object.ensures.ok e)))))
          c.end_array.ensures.ok;
    })
