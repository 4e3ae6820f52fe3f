mod KnownConf
mod LoadLemmas
mod CallLemmas
