mod OneStep
mod OneRun
mod OneReport
