use Rattle.dali_story.proofs.streams.tell.Goals as goal

pub returns-in-Ok-clause-told : goal.returns-in-Ok-clause-told
returns-in-Ok-clause-told g c = (
  c.in_ok-played.played,
  c.in_ok-played.ensures.played,
  c.in_ok-played.ensures.input,
  rw (c.as_bytes.ensures.value, c.in_ok-story.ensures) at c.in-Ok.ensures.bytes,
)
