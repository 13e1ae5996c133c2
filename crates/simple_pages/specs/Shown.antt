-- Runs as the code holds them (this project's own).
use Rattle.simple_pages.specs.declared.runs.Shown.{Shown}
use Rattle.simple_pages.specs.Groups.{ShownRun, shown_run}

abbrev pub shown_of : Shown → ShownRun
shown_of run = shown_run run.text.now run.origin
