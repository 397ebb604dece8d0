use Rattle.winnow_stream.specs.declared.checkpoint.Checkpoint.{Checkpoint}

-- what a checkpoint holds
abbrev pub checkpoint_inner : {T S : Type 0} → Checkpoint T S → T
checkpoint_inner c = c.inner
