use Rattle.graphql_laws.proofs.MeetingLaws.{merges_by_meeting}
use Rattle.graphql_laws.proofs.merging.set_merges_where_meeting_fields_agree.Goals as goal

pub returns : goal.returns
returns c = merges_by_meeting
