mod Decimals
mod OneCommand
mod OneJudge
mod OneOverlap
